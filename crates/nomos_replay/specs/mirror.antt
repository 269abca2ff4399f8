-- Mirrors of the code, on which no promise stands.
pub mod JournalReading
pub mod BatchUnderWay
pub mod Items
pub mod VersionOne
