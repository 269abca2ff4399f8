pub mod KindAnswer
pub mod mirror
