pub mod Lines
pub mod Scalars
pub mod Spelling
pub mod Literals
pub mod Anchors
pub mod Pieces
pub mod Tokens
pub mod inside
