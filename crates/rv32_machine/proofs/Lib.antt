pub mod TableLaws
pub mod TurnSteps
pub mod TurnLaws
mod Values
pub mod Rows
pub mod StoreSteps
