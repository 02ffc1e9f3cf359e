pub mod Clock
pub mod Timer
