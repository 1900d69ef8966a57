pub mod FailLaws
pub mod GrowLaws
pub mod ChainLaws
pub mod WriteLaws
pub mod DivisionLaws
