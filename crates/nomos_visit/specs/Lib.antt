pub mod TalkText
pub mod Visits
pub mod TalkHeld
pub mod mirror
