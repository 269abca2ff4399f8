pub mod PartFaults
pub mod ProgramRows
pub mod mirror
