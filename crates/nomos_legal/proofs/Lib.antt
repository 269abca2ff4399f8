pub mod SettledLaws
pub mod NamedLaws
pub mod ResolveLaws
pub mod StartLaws
pub mod WorldLaws
pub mod UniqueLaws
pub mod LegalLaws
pub mod DebitLaws
pub mod RightLaws
pub mod NextNumberLaws
pub mod WorldCostLaws
pub mod JournalCostLaws
pub mod Examples
mod BatchExamples
mod JournalExamples
pub mod DepositLaws
pub mod FollowLaws
pub mod OneJournalLaws
