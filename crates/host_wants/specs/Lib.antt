pub mod Wanted
pub mod Refusals
pub mod Lending
