pub mod mirror
pub mod Readable
pub mod TreeOf
pub mod Parsing
