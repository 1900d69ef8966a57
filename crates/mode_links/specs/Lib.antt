pub mod Bridges
pub mod Conditions
pub mod Statements
pub mod Whole
