pub mod Acts
pub mod Bucket
pub mod Codel
pub mod Lane
pub mod Root
pub mod inside
