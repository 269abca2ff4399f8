-- Mirrors of the code, on which no promise stands.
pub mod LineKinds
pub mod Loaded
pub mod Remaining
pub mod Stands
pub mod ValueReading
pub mod WrittenWords
