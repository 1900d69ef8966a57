pub mod Records
pub mod SourceTexts
