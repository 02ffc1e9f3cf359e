-- how pages stand for memory, and where the bytes of pages stand
pub mod PageStore
pub mod PageTable
pub mod Pages
pub mod Slots
