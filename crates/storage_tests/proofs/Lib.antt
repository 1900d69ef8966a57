pub mod CompareLaws
pub mod Faults
pub mod JointLaws
pub mod SeenLaws
pub mod TreeLaws
