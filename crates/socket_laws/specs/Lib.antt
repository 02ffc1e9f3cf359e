pub mod Histories
pub mod Pairs
pub mod Apart
pub mod Waiting
pub mod Rises
pub mod Told
