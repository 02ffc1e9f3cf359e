pub mod Contract
pub mod Input
pub mod Shown
pub mod inside
