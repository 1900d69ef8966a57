pub mod InNames
pub mod NearOccurrences
