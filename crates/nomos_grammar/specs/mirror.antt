pub mod Table
pub mod Stacks
pub mod ReaderStates
pub mod Tallies
pub mod Sights
pub mod TokenReaders
