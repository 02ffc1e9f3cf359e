pub mod Registers
pub mod Stack
pub mod Start
pub mod States
pub mod Turns
