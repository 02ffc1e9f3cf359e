-- how the code finds the other end of a connection
pub mod Finding
