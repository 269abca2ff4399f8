pub mod ProcessesCome
pub mod Covering
pub mod Foreseeing
pub mod Touching
pub mod Woken
pub mod mirror
