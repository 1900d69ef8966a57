pub mod Orders
pub mod Ranges
pub mod Unlike
pub mod Limits
