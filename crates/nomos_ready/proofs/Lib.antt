mod AwakeLemmas
pub mod BeginLaws
pub mod CoverLaws
mod PairLemmas
mod SeekLemmas
pub mod SightLaws
pub mod TouchLaws
pub mod WakeLaws
