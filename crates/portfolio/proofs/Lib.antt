pub mod Counts
pub mod NameLaws
pub mod Only
pub mod Order
pub mod Refused
pub mod Unknown
