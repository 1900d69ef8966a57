pub mod Occurrences
pub mod Ties
pub mod Among
pub mod Longer
