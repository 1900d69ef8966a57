pub mod Data
pub mod Names
pub mod Overlap
pub mod Simple
pub mod Statements
pub mod Uses
