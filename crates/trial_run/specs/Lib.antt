pub mod Answers
pub mod Branches
pub mod Calls
pub mod Halts
pub mod Jobs
pub mod Plans
pub mod Runs
