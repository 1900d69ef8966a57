pub mod Areas
pub mod Dates
pub mod Bridged
pub mod Needs
