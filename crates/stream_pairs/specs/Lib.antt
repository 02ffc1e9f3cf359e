pub mod Directions
pub mod inside
