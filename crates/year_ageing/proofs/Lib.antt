pub mod HalfLemmas
pub mod Walk
pub mod AgedLengths
pub mod Steps
