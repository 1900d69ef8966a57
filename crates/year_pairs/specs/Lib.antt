pub mod Years
pub mod Lone
