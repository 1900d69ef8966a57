pub mod Operands
pub mod Windows
pub mod Literals
