pub mod Telling
pub mod Founded
pub mod Messages
pub mod Owning
pub mod Sections
pub mod StateTyped
pub mod mirror
