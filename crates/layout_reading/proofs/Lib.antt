pub mod Found
pub mod Meant
pub mod Numbered
pub mod Qualified
pub mod Seen
