pub mod CarryWords
pub mod CarryCall
pub mod CarryClaims
pub mod Alone
pub mod mirror
