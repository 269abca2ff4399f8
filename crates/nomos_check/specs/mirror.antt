-- What private calls answer; no promise stands on these.
pub mod ProcessAnswers
pub mod Cases
pub mod FoundWrong
pub mod Fresh
pub mod FormLimits
pub mod StepMoves
pub mod Passing
pub mod VariablePlaces
pub mod StandingData
pub mod StartingWalk
pub mod Stops
pub mod Walking
pub mod Ways
