mod SightLemmas
mod ReceivingLemmas
mod SharingLemmas
mod DeedLemmas
mod DecisionLemmas
mod WayLemmas
pub mod FireLaws
pub mod LowestLaws
pub mod LinearNameLaws
pub mod WalkLaws
pub mod KeeperLaws
