pub mod Conditions
pub mod Exprs
pub mod Operands
pub mod Order
pub mod Places
