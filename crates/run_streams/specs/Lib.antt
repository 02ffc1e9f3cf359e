pub mod Exchanges
pub mod Run
pub mod Past
