pub mod Joined
pub mod Ranges
pub mod Found
pub mod Classes
