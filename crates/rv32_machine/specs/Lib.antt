pub mod Word
pub mod Arithmetic
pub mod Encoding
pub mod Table
pub mod Turn
