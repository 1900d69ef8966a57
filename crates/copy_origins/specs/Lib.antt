pub mod Expansion
pub mod Keys
pub mod Reads
pub mod Replacing
pub mod Signs
pub mod Statement
