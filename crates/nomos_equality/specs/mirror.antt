pub mod Heads
pub mod Linking
pub mod PairTables
pub mod Reach
pub mod Search
pub mod Known
pub mod ToldPairs
pub mod Walk
