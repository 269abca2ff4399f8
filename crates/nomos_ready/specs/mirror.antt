pub mod Seeking
pub mod ToldSets
pub mod Waking
