mod CauseLemmas
mod CountLemmas
mod EndLemmas
pub mod FeedLaws
mod GasLemmas
pub mod LengthLaws
mod NamingLemmas
mod NumberLemmas
pub mod NamingLaws
pub mod OneTextLaws
pub mod ReadingLaws
pub mod SplittingLaws
