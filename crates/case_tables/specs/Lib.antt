pub mod Reserved
pub mod Rows
pub mod Table
