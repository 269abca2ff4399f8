mod Examples
mod GatheringLemmas
mod KindLemmas
mod LabelLemmas
pub mod LeadLaws
pub mod LineLaws
mod LoadLemmas
pub mod LoadingLaws
pub mod OneLineLaws
mod LowestLaws
mod MessageLemmas
pub mod OneReadingLaws
pub mod OrderLaws
pub mod OrderlyLaws
mod ProcessLaws
mod RemainingLemmas
mod RowLemmas
mod SavingLemmas
mod StandLemmas
mod TextReadingLemmas
mod ValueLemmas
mod VariableLaws
mod WideLemmas
mod WordLemmas
mod WritingLemmas
