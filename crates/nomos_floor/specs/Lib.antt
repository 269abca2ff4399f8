pub mod OwnEntries
pub mod FloorView
pub mod FloorInvariant
pub mod FloorSteps
pub mod FloorPass
pub mod FloorCrew
pub mod mirror
