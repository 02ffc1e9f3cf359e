pub mod Histories
pub mod Rises
pub mod Seeing
pub mod Marks
