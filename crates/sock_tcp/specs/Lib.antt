pub mod segment
pub mod connection
pub mod listener
