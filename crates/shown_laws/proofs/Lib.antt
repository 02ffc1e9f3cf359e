pub mod CaptureLines
pub mod Plans
pub mod Worlds
pub mod Shown
