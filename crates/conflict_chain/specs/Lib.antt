pub mod Named
pub mod Chains
pub mod Conflicts
pub mod Clashes
pub mod Reasons
