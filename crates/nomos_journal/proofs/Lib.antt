mod FormLemmas
pub mod LineLaws
mod LineLemmas
pub mod PlacedLaws
mod PlacedLemmas
