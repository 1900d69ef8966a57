pub mod Edited
pub mod NewWords
pub mod Areas
pub mod Groups
