pub mod Clashes
pub mod Faults
