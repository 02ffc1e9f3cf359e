-- what stands while a text is read
pub mod Builder
pub mod Frames
pub mod Gone
pub mod Numbers
pub mod Outline
pub mod Rows
pub mod Stack
pub mod Trees
