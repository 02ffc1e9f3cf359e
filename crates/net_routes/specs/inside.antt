-- what stands while routes are searched, and how rows are kept
pub mod Found
pub mod KeptRows
pub mod Adjacency
pub mod Numbers
pub mod Path
pub mod Places
pub mod RouteRows
pub mod RouteMaps
pub mod Search
pub mod LeastSteps
