pub mod Checksum
pub mod Datagram
pub mod Fault
pub mod Laws
pub mod Packets
pub mod Reading
pub mod Writing
