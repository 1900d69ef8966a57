pub mod Statements
pub mod Found
pub mod Left
pub mod Parts
