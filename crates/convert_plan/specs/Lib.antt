pub mod Groups
pub mod Numbers
pub mod Plans
pub mod Calls
