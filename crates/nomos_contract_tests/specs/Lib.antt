pub mod TermTable
pub mod Fitting
