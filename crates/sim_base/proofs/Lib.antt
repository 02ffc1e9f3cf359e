pub mod BookLemmas
pub mod PortLemmas
pub mod RefusalLemmas
