pub mod ListFacts
pub mod PostSteps
pub mod DueSteps
pub mod DeliverySteps
pub mod CountSteps
