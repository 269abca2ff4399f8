mod BatchLemmas
mod EndLemmas
mod Examples
mod FiringLemmas
mod FormLemmas
mod LineLemmas
mod OnwardLemmas
mod ReadingLemmas
mod RefusalLemmas
mod VersionOneLemmas
mod WalkLemmas
pub mod FormLaws
pub mod LegalTextLaws
pub mod LengthLaws
pub mod OneAnswerLaws
pub mod RoundTripLaws
