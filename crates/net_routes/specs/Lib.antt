pub mod Cost
pub mod Walk
pub mod Needed
pub mod RouteMap
pub mod Routes
pub mod Table
pub mod Least
pub mod inside
