pub mod Numbers
pub mod Loaded
pub mod Written
