pub mod Years
pub mod Steps
pub mod Runs
