-- what stands while a file is read, and of the index of an image's pages
pub mod Build
pub mod Layout
pub mod PageIndex
pub mod Tables
