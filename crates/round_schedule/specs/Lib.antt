pub mod Standing
pub mod Opening
pub mod Reaching
pub mod Leaving
pub mod Rounds
pub mod inside
