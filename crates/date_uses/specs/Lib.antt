pub mod Places
pub mod Entries
pub mod Conditions
pub mod Statements
pub mod Uses
