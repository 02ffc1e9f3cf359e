pub mod Call
pub mod Epoll
pub mod Plain
pub mod Polling
pub mod Ready
pub mod Sockets
pub mod Starting
