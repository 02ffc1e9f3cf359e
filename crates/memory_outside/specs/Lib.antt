pub mod Calls
pub mod Files
pub mod MemSink
pub mod MemSource
