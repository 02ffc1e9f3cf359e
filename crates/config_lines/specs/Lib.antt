pub mod Quoted
pub mod Shown
