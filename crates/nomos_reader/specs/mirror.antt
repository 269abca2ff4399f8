-- Mirrors of the code, on which no promise stands.
pub mod Codes
pub mod Files
pub mod Front
pub mod TermPieces
pub mod Terms
pub mod Types
pub mod Errors
