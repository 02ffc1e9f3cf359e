pub mod Number
pub mod State
pub mod Header
pub mod Verdict
pub mod Congestion
pub mod Control
pub mod Refusal
