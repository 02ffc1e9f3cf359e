pub mod Sets
pub mod Bags
pub mod Ports
