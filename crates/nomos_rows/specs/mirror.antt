pub mod PartAnswers
pub mod Declarations
pub mod Processes
pub mod FirstFault
pub mod Ups
