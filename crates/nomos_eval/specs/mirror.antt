-- Mirrors of the code, on which no promise stands.
pub mod Around
pub mod Ascending
pub mod Begin
pub mod ListCell
pub mod Load
pub mod Evaluator
pub mod Operation
pub mod Parted
pub mod Rest
pub mod EvalRun
pub mod EvalScope
pub mod EvalTable
pub mod SmallPart
pub mod TermsFound
