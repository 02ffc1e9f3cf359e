pub mod Paths
pub mod Listings
pub mod Writings
pub mod Capturing
pub mod LinesFit
pub mod Shares
