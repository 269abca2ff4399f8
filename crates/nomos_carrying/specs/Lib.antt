pub mod CarryDue
pub mod Renumbered
pub mod CarrySources
pub mod mirror
