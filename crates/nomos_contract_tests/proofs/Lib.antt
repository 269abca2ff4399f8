pub mod TableLemmas
pub mod ShortNameLemmas
pub mod TypeProgramLemmas
