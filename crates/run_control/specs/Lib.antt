pub mod Held
pub mod Work
pub mod Moves
pub mod Labels
pub mod Program
