pub mod Span
pub mod Time
pub mod Address
