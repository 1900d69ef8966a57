pub mod Trees
pub mod Names
pub mod Conditions
pub mod Statements
