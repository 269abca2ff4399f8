-- Mirrors of the code, on which no promise stands.
pub mod Agrees
pub mod Checked
pub mod CodeCheck
pub mod Each
pub mod Entries
pub mod FileCheck
pub mod Following
pub mod Seeing
pub mod TermCheck
pub mod TypeCheck
pub mod Work
