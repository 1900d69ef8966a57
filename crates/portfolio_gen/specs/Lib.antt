pub mod Digits
pub mod Employees
pub mod Sources
