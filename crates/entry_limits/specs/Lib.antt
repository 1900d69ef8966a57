pub mod Covering
pub mod Items
pub mod Pictures
pub mod Whole
