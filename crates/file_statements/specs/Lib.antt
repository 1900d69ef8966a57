pub mod Units
pub mod Calls
pub mod Faults
pub mod Done
