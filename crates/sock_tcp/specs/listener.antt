pub mod Listen
pub mod Dropped
pub mod Ready
pub mod ListensFor
