pub mod ReadAgain
pub mod Loopback
pub mod Given
