-- Mirrors of the code, step by step. No promise stands on them.
pub mod ValueReading
pub mod Assembling
pub mod TalkSaying
pub mod ReaderSeen
