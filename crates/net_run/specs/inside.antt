-- what only contracts within the crate and proofs name
pub mod Gathered
pub mod Rest
