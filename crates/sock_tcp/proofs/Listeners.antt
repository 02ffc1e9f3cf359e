pub mod QueuePlaces
pub mod ListenActs
pub mod Dropping
pub mod ListenEnds
