pub mod Handed
pub mod RoutesFound
