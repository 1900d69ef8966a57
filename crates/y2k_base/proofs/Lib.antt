pub mod Each
pub mod EditLaws
