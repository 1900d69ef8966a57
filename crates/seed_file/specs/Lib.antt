pub mod Rows
pub mod Seeds
