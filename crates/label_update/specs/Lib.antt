pub mod Names
pub mod Named
pub mod Laws
pub mod Live
