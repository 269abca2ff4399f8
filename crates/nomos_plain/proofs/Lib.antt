pub mod FindLemmas
pub mod PlaceLemmas
pub mod PotentialLemmas
pub mod RedirectLemmas
pub mod SoundLemmas
pub mod TakeLemmas
pub mod WalkLemmas
