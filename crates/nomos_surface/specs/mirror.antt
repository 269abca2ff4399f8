-- Mirrors of the code, on which no promise stands.
pub mod PrintedNames
pub mod Shallow
