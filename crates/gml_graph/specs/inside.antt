-- what stands while a text is read, and which rows are kept
pub mod Asked
pub mod Left
pub mod Scanning
