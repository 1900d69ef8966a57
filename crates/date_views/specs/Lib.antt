pub mod Views
pub mod Sides
pub mod Uses
pub mod Moves
pub mod Sums
