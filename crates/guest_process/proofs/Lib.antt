pub mod Stacks
pub mod Texts
