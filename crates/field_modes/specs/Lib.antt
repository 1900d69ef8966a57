pub mod Crossings
pub mod Crossed
pub mod Bridged
