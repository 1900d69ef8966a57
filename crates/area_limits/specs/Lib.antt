pub mod Grown
pub mod Extents
pub mod Full
pub mod Taken
pub mod Whole
