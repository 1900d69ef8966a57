pub mod Old
pub mod Moves
pub mod Accepts
pub mod Statements
pub mod Expanded
