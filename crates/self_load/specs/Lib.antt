pub mod GraphText
pub mod Means
