pub mod Buffers
pub mod Cuts
pub mod Faults
pub mod Files
