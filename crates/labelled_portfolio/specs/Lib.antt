pub mod Seeded
pub mod Labelled
