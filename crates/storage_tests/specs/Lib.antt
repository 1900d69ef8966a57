pub mod Sides
pub mod Seen
pub mod Joints
