pub mod Places
pub mod Lives
pub mod Bits
pub mod Pipes
pub mod Eventfds
pub mod Timers
pub mod Telling
