mod ReportExamples
mod StarLemmas
mod PlaceLemmas
mod WalkLemmas
mod ChannelLemmas
mod ContractLemmas
mod LeftLemmas
pub mod SpentLaws
pub mod PassageLaws
pub mod NothingLeftOutLaws
