pub mod Datagrams
pub mod Folding
pub mod RecordLemmas
pub mod Sums
pub mod Verified
pub mod Written
