pub mod Counting
pub mod EpollRows
pub mod EventfdRows
pub mod Eventfds
pub mod Order
pub mod Rows
pub mod Watching
