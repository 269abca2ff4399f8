pub mod CountedPlaces
pub mod Grammar
pub mod Offence
pub mod Producing
pub mod mirror
