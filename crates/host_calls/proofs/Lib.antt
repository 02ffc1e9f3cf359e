pub mod Closed
pub mod Entries
pub mod Made
pub mod Objects
pub mod Waits
