pub mod Bytes
pub mod Packets
pub mod Sockets
pub mod Parts
pub mod Given
