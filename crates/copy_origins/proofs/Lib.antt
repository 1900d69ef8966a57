pub mod Laws
pub mod Orders
pub mod Pieces
pub mod Runs
pub mod Search
pub mod Sides
pub mod SignLaws
pub mod Signs
