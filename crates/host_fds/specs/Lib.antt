pub mod Descriptors
pub mod Epoll
pub mod Eventfd
pub mod Pipe
pub mod Rises
