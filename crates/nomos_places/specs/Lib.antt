pub mod LeastPotential
pub mod WantedPlaces
pub mod mirror
