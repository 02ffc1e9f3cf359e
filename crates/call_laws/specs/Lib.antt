pub mod Laws
pub mod Readiness
