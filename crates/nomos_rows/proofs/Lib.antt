pub mod SharedLaws
pub mod ProgramLaws
pub mod MeetingLaws
mod TellingLemmas
mod UpsLemmas
mod FunctionLemmas
mod ProcessLemmas
mod DeclarationLemmas
mod AnswerLemmas
