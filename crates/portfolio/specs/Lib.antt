pub mod Keys
pub mod Names
pub mod Steps
pub mod Values
pub mod Meaning
pub mod Counts
pub mod Faults
