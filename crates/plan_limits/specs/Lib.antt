pub mod Limits
pub mod First
