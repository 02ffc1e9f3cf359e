pub mod Counted
pub mod Marks
pub mod GoingOn
pub mod Walk
pub mod Worlds
