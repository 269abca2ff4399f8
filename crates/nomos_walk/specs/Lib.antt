pub mod Wanted
pub mod Papers
pub mod WalkState
pub mod Walks
pub mod Coming
