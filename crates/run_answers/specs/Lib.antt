pub mod Answers
pub mod Captured
pub mod Puts
pub mod ReadFailed
