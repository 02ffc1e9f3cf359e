-- words and texts between quotes, as bytes inside of a line
pub mod Quotes
pub mod Words
pub mod Decimals
