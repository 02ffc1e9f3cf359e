pub mod Free
pub mod Paths
pub mod Random
