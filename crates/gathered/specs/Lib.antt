pub mod Portfolios
pub mod Shelved
pub mod Sound
