pub mod AlongLemmas
pub mod FoundLemmas
pub mod InsideLaws
pub mod NeedLemmas
pub mod NotingLemmas
pub mod PlaceLemmas
pub mod ShiftLaws
pub mod SpareLaws
