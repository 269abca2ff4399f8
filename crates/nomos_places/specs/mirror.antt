-- What private calls make; no promise stands on it.
pub mod AlongCode
pub mod Making
pub mod Needing
pub mod Noting
