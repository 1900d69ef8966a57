pub mod Bears
pub mod Standing
