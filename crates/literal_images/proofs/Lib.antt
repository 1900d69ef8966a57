pub mod Kept
pub mod Years
pub mod Found
