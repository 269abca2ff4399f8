-- What private calls answer; no promise stands on these.
pub mod ComparedWith
pub mod MessageHeads
pub mod Leading
pub mod AtPlaces
pub mod Purses
pub mod TypedTalks
pub mod Ties
