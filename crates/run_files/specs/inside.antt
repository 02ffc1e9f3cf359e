-- what only contracts within the crate and proofs name
pub mod Captured
pub mod Shares
