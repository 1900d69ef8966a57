pub mod Kinds
pub mod Names
pub mod Numbered
pub mod Reading
pub mod Told
pub mod Values
