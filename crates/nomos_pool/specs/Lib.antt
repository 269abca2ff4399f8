pub mod PoolRule
pub mod PoolPass
pub mod Gathering
pub mod Hands
pub mod Dealing
pub mod Pooled
