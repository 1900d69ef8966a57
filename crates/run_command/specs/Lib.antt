pub mod Words
pub mod Jobs
pub mod Refused
pub mod Answer
