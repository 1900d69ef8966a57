pub mod Roles
pub mod Cuts
pub mod Numerals
pub mod Sums
pub mod Limits
