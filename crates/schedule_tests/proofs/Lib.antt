pub mod Reading
pub mod Hosts
pub mod Begun
pub mod Stepping
