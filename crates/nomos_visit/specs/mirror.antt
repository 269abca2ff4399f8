-- What follows the code step by step.
pub mod Holding
