-- what stands while a line is read
pub mod Escapes
pub mod Kept
pub mod Packed
