pub mod BreakLemmas
pub mod CellLemmas
pub mod HeapLemmas
pub mod PageLemmas
pub mod SlotLemmas
pub mod StoreLemmas
pub mod TableLemmas
