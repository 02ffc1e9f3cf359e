pub mod Exchange
pub mod Sound
pub mod Heard
pub mod Stream
pub mod Frame
