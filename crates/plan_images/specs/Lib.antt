pub mod Marks
pub mod Tables
pub mod Edges
pub mod Lengths
pub mod Laws
