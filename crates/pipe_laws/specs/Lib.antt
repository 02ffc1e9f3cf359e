pub mod Acts
pub mod Eventfds
pub mod Rises
pub mod Watching
