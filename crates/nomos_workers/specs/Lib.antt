pub mod Crews
pub mod Looks
pub mod OneWorker
pub mod Shops
pub mod mirror
