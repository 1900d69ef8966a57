pub mod Digit
pub mod HalfBytes
pub mod Part
pub mod Text
pub mod Records
