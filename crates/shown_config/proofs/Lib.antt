pub mod words
pub mod forms
pub mod blocks
pub mod config
pub mod reading
pub mod plain
