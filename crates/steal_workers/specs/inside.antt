-- the fields of a seat as contracts see them, and what stands while tasks are dealt and gathered
pub mod Backs
pub mod Columns
pub mod Decks
pub mod Emptying
pub mod Handles
pub mod Items
pub mod Layouts
pub mod Shares
pub mod TookBack
pub mod Unused
