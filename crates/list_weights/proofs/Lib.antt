pub mod Places
pub mod Weights
pub mod Permutations
pub mod Values
