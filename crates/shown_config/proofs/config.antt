-- the block of a configuration
pub mod ConfigBlock
pub mod ConfigText
pub mod ConfigWords
pub mod ConfigKeys
