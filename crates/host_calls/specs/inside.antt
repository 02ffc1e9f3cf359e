-- what a call acts on, and what one sees that is asked what it would do
pub mod Stage
pub mod Calls
pub mod Sockets
