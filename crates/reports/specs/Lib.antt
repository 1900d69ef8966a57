pub mod Rows
pub mod Names
pub mod Places
pub mod Labels
pub mod Conflicts
pub mod Items
pub mod Limits
pub mod Plans
