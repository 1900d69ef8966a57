pub mod Tables
pub mod Alike
pub mod Pictures
pub mod Programs
pub mod Whole
pub mod Laws
