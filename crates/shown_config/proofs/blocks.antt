-- a block mapping of rows: its lines, its tokens and its tree
pub mod Blocks
pub mod BlockTokens
pub mod BlockWritten
pub mod BlockSaid
pub mod Tidy
pub mod BlockText
