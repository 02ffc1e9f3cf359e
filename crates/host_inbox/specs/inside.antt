-- how the fields stand for what contracts see, and what lies in boards that are closed
pub mod Boards
pub mod Carriers
pub mod Slots
