pub mod Answer
pub mod Labels
pub mod Lines
