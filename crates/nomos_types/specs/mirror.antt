pub mod Least
pub mod ModeSetting
pub mod Offences
