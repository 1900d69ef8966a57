pub mod Numbers
pub mod Faults
pub mod Checked
pub mod Written
