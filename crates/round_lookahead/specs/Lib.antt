pub mod Tasks
pub mod Works
pub mod WorldStands
pub mod Took
pub mod Gains
pub mod OpeningWorld
pub mod Reached
pub mod inside
