pub mod Lives
pub mod Kinds
pub mod Timers
pub mod Counted
