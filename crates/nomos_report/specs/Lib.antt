pub mod ReportLines
pub mod Block
pub mod ShownState
pub mod Reported
pub mod NothingLeftOut
pub mod mirror
