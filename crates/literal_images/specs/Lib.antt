pub mod Meetings
pub mod Numbers
pub mod Texts
pub mod Images
pub mod Limits
