mod PieceLemmas
mod ListingLemmas
pub mod FrontLemmas
mod ContentLemmas
pub mod NameLemmas
mod SplitLemmas
mod FileLemmas
mod GrowthLemmas
mod HostLemmas
mod CaptureLemmas
mod WholeLemmas
pub mod PartLemmas
pub mod GrownLemmas
pub mod StandingLemmas
mod StepLemmas
pub mod ToldLemmas
pub mod ExtendsLemmas
pub mod UnderwayLemmas
