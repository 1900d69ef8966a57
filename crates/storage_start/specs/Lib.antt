pub mod Literals
pub mod Points
pub mod Receivable
pub mod Writes
