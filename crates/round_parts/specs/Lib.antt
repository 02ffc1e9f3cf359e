pub mod Arrivals
pub mod Rows
pub mod Posts
pub mod Dues
pub mod Counts
