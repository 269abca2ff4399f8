pub mod BoundLemmas
pub mod EnterLemmas
pub mod StayLemmas
pub mod TaskLemmas
pub mod WorkLemmas
