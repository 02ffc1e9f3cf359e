pub mod InnerLaws
pub mod HeldLaws
pub mod MergingLaws
pub mod MergeLaws
