pub mod QuantityLemmas
