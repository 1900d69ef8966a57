pub mod FaultLaws
pub mod StoredLaws
