mod BenchLemmas
mod DueLemmas
pub mod SourceLemmas
pub mod ReplayLaws
pub mod LoadReadsLaws
mod WholeLemmas
mod PoolDueLemmas
mod SnapshotDueLemmas
mod TalkDueLemmas
mod TalkCountLaws
mod TalkRoomLemmas
