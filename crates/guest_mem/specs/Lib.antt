pub mod Break
pub mod Memory
pub mod Opening
pub mod Vectors
pub mod inside
