-- What is answered where a ledger is to be saved.
use Rattle.std.specs.Prelude.{◌≤◌, ◌<◌, ℕ, List, length, Result, Ok, Err}
use Rattle.nomos_legal.specs.Ledger.{LedgerState}
use Rattle.nomos_machine.specs.State.{State}
use Rattle.nomos_types.specs.Acceptance.{Acceptance}
use Rattle.nomos_snapshot.specs.Line.{IsNext}
use Rattle.nomos_snapshot.specs.Loading.{longest_snapshot}
use Rattle.nomos_snapshot.specs.Text.{snapshot_text}
use Rattle.nomos_snapshot.specs.declared.error.SaveError.{SaveError}
use Rattle.nomos_snapshot.specs.declared.error.SaveError.TheVariants as error

-- both next numbers leave room for further runs
pub record HasLowNumbers (s : State) : Type 0 where
  pub objects : IsNext s.next_object
  pub names : IsNext s.next_name

-- What is answered of a ledger, in the order of these rows. Want of memory has none.
pub data Saves (a : Acceptance) (l : LedgerState) : Result (List ℕ) SaveError → Type 0 where
  numbers : ¬ (HasLowNumbers l.state) → Saves a l (Err (error.Numbers l.state.next_object l.state.next_name))
  too_long : HasLowNumbers l.state → longest_snapshot < length (snapshot_text a l) → Saves a l (Err error.TooLong)
  saved : HasLowNumbers l.state → length (snapshot_text a l) ≤ longest_snapshot → Saves a l (Ok (snapshot_text a l))
