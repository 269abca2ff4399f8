mod Examples
pub mod FindsOneLaws
mod GivenOptionLemmas
pub mod LoadLaws
mod LoadLemmas
mod OptionLemmas
mod RunLemmas
pub mod WordLaws
