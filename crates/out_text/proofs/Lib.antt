pub mod Addresses
pub mod Cuts
pub mod LineWords
pub mod Words
pub mod TextLaws
