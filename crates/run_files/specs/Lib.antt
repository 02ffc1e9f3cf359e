pub mod Captured
pub mod Captures
pub mod Files
pub mod Grown
pub mod LinesFit
pub mod Listed
pub mod Written
pub mod inside
