mod DenseLemmas
mod NoLedgerLemmas
mod RenumberLemmas
mod CarryLemmas
pub mod RenumberedLaws
