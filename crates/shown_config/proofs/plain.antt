-- what is read of a plain tree is plain
pub mod GoodTrees
pub mod Merges
pub mod Has
pub mod SplitWords
pub mod PlainValues
pub mod PlainParts
pub mod PlainLists
pub mod Starts
pub mod PlainProcesses
pub mod PlainHosts
