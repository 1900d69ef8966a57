pub mod CopyLaws
pub mod LiteralLaws
