pub mod TypedText
pub mod AcceptedText
pub mod Causes
pub mod Preparing
pub mod mirror
