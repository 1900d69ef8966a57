pub mod Years
pub mod Records
