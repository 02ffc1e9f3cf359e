pub mod Socket
pub mod SocketLaws
