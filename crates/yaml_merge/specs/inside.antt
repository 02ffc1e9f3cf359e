-- what nodes hold of a plain tree, and what each step of merging gives
pub mod Falls
pub mod Height
pub mod Held
pub mod Inner
pub mod Merging
pub mod SaidCode
