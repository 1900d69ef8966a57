pub mod Fits
pub mod Forms
pub mod Held
pub mod Means
pub mod Meets
pub mod Reached
pub mod Resolved
