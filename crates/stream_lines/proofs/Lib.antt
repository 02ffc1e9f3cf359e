pub mod Walk
pub mod Apart
pub mod Given
pub mod Within
pub mod Planned
pub mod Rows
pub mod Hosts
pub mod Runs
