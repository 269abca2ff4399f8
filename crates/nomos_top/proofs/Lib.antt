mod CallLemmas
mod CauseLemmas
mod DueLemmas
mod EndLaws
mod LoadedLaws
mod RefusalLaws
mod TaskLaws
mod Views
pub mod AcceptedLaws
pub mod KeptLaws
pub mod OneAnswerLaws
pub mod OneDueLaws
pub mod PoolingLaws
pub mod RefusingLaws
pub mod RepeatLaws
pub mod ReplayingLaws
pub mod ShownLaws
pub mod SnapshotLaws
pub mod StatusLaws
pub mod TalksByTypeLaws
pub mod HeadlineLaws
pub mod ClaimLaws
