pub mod Collected
pub mod StarCounts
pub mod GroupEnds
pub mod Joining
pub mod SameRows
pub mod Zeros
