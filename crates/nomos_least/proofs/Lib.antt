pub mod BoundLemmas
pub mod GoalLaws
pub mod LeastLaws
pub mod ProductLemmas
pub mod OneLeastLaws
