pub mod Bounds
pub mod Linear
pub mod Meeting
pub mod Refuting
pub mod RowGroups
pub mod RowOrder
pub mod RowsOf
pub mod mirror
