pub mod EndLemmas
pub mod GrowLemmas
pub mod NameLemmas
pub mod FitLemmas
pub mod OneShown
pub mod OpenedLemmas
pub mod PartLemmas
mod StreamLemmas
pub mod PlanLemmas
pub mod RoundLemmas
pub mod RunLemmas
pub mod ShadowLemmas
pub mod UntouchedLemmas
