pub mod Clashes
pub mod Conversions
