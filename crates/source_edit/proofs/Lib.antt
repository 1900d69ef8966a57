pub mod Cells
pub mod Clashing
pub mod Fronts
pub mod Programs
pub mod Putting
pub mod Reaching
pub mod Texts
pub mod Trimming
pub mod Writing
mod ByNumber
