pub mod Links
pub mod Modes
pub mod Work
