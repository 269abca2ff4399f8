pub mod Carried
pub mod mirror
