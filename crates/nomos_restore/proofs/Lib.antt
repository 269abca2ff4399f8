pub mod BuiltLemmas
pub mod MentionLemmas
pub mod NumberingLemmas
