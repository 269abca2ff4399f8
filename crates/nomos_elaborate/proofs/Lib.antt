pub mod NumberLaws
mod NameTables
mod ScopeTables
pub mod StopLaws
mod Loops
mod TermLoops
mod TypeLoops
mod CodeLoops
mod StepLoops
mod CodeSteps
mod Walks
pub mod EntryLaws
pub mod CheckedLaws
pub mod TermLaws
pub mod TypeLaws
pub mod NameClaimLaws
pub mod StepLaws
pub mod CodeLaws
pub mod FileLaws
mod Examples
mod Making
mod TreeMaking
mod DeclMaking
pub mod SizeLaws
pub mod AmountLaws
pub mod KindLaws
pub mod ShortLaws
mod StandOnce
pub mod KeptNodeLaws
pub mod TypesOnceLaws
pub mod CodeOnceLaws
pub mod OrderLaws
pub mod BuiltRangeLaws
mod TypeRange
mod CodeRange
pub mod DeclaredRangeLaws
pub mod DistinctNameLaws
pub mod KeptLabelLaws
pub mod TypeLabelLaws
pub mod CodeLabelLaws
pub mod ParameterNameLaws
mod PrintedLemmas
pub mod InstructionLaws
pub mod AnswerLaws
pub mod CostAllLaws
mod DeclaringLemmas
pub mod NamingLaws
pub mod NestingLaws
mod ProgramExamples
pub mod ProgramLaws
pub mod RangeLaws
pub mod WorkLaws
