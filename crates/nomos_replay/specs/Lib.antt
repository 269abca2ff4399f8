pub mod Told
pub mod Stand
pub mod Spoiled
pub mod Answers
pub mod Refusal
pub mod Replayed
pub mod mirror
