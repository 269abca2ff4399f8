-- Mirrors of the code, on which no promise stands.
pub mod FaultNaming
pub mod Numeral
pub mod PlainEnds
pub mod Shortages
