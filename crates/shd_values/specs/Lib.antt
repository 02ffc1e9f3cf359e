pub mod Number
pub mod Word
pub mod Address
pub mod Words
