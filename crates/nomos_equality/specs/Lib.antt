pub mod Answer
pub mod Comparing
pub mod Differences
pub mod Paths
pub mod mirror
pub mod Continuing
pub mod SyncAnswer
pub mod Carriers
