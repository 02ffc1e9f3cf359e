pub mod Stretches
pub mod Waiting
