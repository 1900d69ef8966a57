pub mod Called
pub mod Ended
pub mod Halted
pub mod Led
pub mod Months
pub mod Records
