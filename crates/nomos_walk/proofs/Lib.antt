mod PaperLemmas
mod RoomLemmas
mod WalkLemmas
pub mod MoreLaws
pub mod ComeLaws
pub mod EntryLaws
