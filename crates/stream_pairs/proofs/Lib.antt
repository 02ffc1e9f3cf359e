pub mod FindingLemmas
pub mod DirectionLemmas
