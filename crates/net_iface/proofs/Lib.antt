pub mod BucketLemmas
pub mod DropLaws
pub mod LaneLemmas
pub mod PushLaws
pub mod RateLaws
pub mod RootLemmas
