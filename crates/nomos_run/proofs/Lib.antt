mod CarryLemmas
pub mod CarriedLaws
mod CourseLemmas
mod Sending
