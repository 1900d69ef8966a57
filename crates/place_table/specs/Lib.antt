pub mod Known
pub mod Names
pub mod Numbers
pub mod Props
pub mod Tables
pub mod Views
