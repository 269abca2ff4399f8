pub mod Cause
pub mod End
pub mod Number
pub mod ReadAs
pub mod Splitting
pub mod ValueTexts
pub mod mirror
