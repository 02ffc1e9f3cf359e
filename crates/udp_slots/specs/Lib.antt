pub mod Bindings
pub mod Slots
pub mod SlotActs
