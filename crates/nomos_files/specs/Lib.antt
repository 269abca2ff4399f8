pub mod FaultCounting
pub mod NamedFile
