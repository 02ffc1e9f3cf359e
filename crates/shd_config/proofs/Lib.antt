pub mod LimitLaws
pub mod StepLaws
pub mod Walks
