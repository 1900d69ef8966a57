pub mod Folder
pub mod Documents
