pub mod Acting
pub mod Acts
pub mod Decisions
pub mod Firings
pub mod Lowest
pub mod ProcessWalks
pub mod Readers
pub mod SeenObjects
