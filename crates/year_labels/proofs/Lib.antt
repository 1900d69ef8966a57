pub mod Total
pub mod Keys
pub mod Clean
pub mod Stretches
