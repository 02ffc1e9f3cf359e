pub mod Faults
pub mod Files
pub mod Sink
pub mod Source
pub mod Tally
