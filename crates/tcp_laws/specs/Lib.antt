pub mod Acts
pub mod Order
pub mod Received
pub mod Sending
pub mod Growth
pub mod Window
