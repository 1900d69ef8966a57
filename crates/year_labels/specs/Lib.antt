pub mod Order
pub mod Facts
pub mod Roles
pub mod Operands
pub mod Forms
pub mod Derivation
pub mod Stretches
