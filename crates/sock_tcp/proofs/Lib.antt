pub mod Segments
pub mod Connections
pub mod Listeners
