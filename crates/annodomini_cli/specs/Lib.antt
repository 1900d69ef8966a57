pub mod Command
pub mod WriteWords
pub mod Forms
