pub mod Names
pub mod Records
pub mod Table
pub mod Files
