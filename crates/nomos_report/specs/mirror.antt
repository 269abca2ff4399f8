-- Mirrors of the code, on which no promise stands.
pub mod NamedLines
pub mod Walked
