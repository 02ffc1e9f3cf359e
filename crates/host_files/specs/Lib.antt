pub mod Epolls
pub mod Files
pub mod Slots
