pub mod Sources
pub mod Plain
pub mod Plainness
pub mod Merge
pub mod Rows
pub mod inside
