-- what single steps do to the code's round
pub mod Closing
pub mod Guards
pub mod Kinds
pub mod Putting
pub mod Turning
