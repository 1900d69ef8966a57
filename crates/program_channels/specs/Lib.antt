pub mod Channel
pub mod Channels
pub mod Numbers
pub mod Tables
