pub mod Stretches
pub mod Spelled
pub mod Search
pub mod Grouped
