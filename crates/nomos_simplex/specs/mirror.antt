pub mod Classes
pub mod Keeping
pub mod Opposite
pub mod SkipsZeros
pub mod Steps
