pub mod Entries
pub mod Inboxes
pub mod Steps
pub mod CarrierViews
pub mod Sizes
pub mod Drains
pub mod Kept
pub mod inside
