pub mod Repeats
pub mod Areas
