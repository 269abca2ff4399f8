pub mod Goal
pub mod LeastBounds
