-- Mirrors of the code, on which no promise stands.
pub mod Forms
pub mod JournalLineKinds
