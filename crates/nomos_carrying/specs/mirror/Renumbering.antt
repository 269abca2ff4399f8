-- What the code finds where a ledger is renumbered, or its next numbers told. Private clauses alone cite it.
use Rattle.std.specs.Prelude.{◌≡◌, ℕ, List, Option, Some, Result, Ok, Err, Vec}
use Rattle.std.specs.Global.{Global}
use Rattle.nomos_answers.specs.Finding.{IsBare, IsNoLedgerOf}
use Rattle.nomos_answers.specs.Outside.{HasText, Input, SourceState, input_of}
use Rattle.nomos_answers.specs.SnapshotLines.{unsaved_line}
use Rattle.nomos_answers.specs.Sources.{kept_text}
use Rattle.nomos_answers.specs.declared.due.Due.{Due}
use Rattle.nomos_answers.specs.declared.resumes.NoLedger.{NoLedger}
use Rattle.nomos_legal.specs.Ledger.{LedgerState}
use Rattle.nomos_legal.specs.StandsFor.{StandsFor}
use Rattle.nomos_snapshot.specs.Loading.{Admits, Loads, TellsLedger}
use Rattle.nomos_snapshot.specs.Saving.{Saves}
use Rattle.nomos_snapshot.specs.Text.{snapshot_text}
use Rattle.nomos_snapshot.specs.ToldLines.{parts_ledger}
use Rattle.nomos_snapshot.specs.declared.error.LoadError.{LoadError}
use Rattle.nomos_snapshot.specs.declared.error.SaveError.{SaveError}
use Rattle.nomos_snapshot.specs.declared.ledger_parts.LedgerParts.{LedgerParts}
use Rattle.nomos_types.specs.Acceptance.{Acceptance}
use Rattle.nomos_words.specs.Options.{usual_limit}
use Rattle.nomos_carrying.specs.CarryDue.{TellsNumbers}
use Rattle.nomos_carrying.specs.Renumbered.{IsRenumberDue, IsRenumbered}

-- what is due of a ledger whose next numbers are told, where this is kept
pub record TellsNextOf (l : LedgerState) (kept : Option (List ℕ)) (due : Due) : Type 0 where
  pub status_is : due.status ≡ 0
  pub told : TellsNumbers l.state.next_object l.state.next_name due.out.items
  pub kept_is : kept_text due ≡ kept

-- ---- what is found of the text of a snapshot

-- what is found of what a source has
abbrev pub FindsTextIn : Acceptance → Input → Result (Vec ℕ Global) NoLedger → Type 0
FindsTextIn a input (Ok text) = text.items ≡ input.text
FindsTextIn a input (Err why) = IsNoLedgerOf a input why

abbrev pub FindsText : Acceptance → SourceState → Result (Vec ℕ Global) NoLedger → Type 0
FindsText a source found = (text : List ℕ) × HasText source.left text × FindsTextIn a (input_of source text) found

-- the text is loaded as a ledger, and these are the parts of the ledger that it tells
pub record HasParts (a : Acceptance) (text : List ℕ) (parts : LedgerParts) : Type 0 where
  pub ledger : LedgerState
  pub loads : Loads a text (Ok ledger)
  pub tells : TellsLedger a text (parts_ledger parts)

-- the text is loaded as a ledger, of which this is the renumbered one, and it stands for the program
pub record HasRenumbered (a : Acceptance) (text : List ℕ) (m : LedgerState) : Type 0 where
  pub ledger : LedgerState
  pub loads : Loads a text (Ok ledger)
  pub is : IsRenumbered ledger m
  pub stands : StandsFor a m

-- why there is none
pub data NotRenumbered (a : Acceptance) (text : List ℕ) (why : LoadError) : Type 0 where
  not_loaded : Loads a text (Err why) → NotRenumbered a text why
  not_admitted : (l m : LedgerState) → Loads a text (Ok l) → IsRenumbered l m → Admits a m (Err why)
      → NotRenumbered a text why

-- ---- what is due

-- what is due of a renumbered ledger
pub data KeepsRenumbered (a : Acceptance) (m : LedgerState) (due : Due) : Type 0 where
  keeps : Loads a (snapshot_text a m) (Ok m) → TellsNextOf m (Some (snapshot_text a m)) due → KeepsRenumbered a m due
  keeps_none : (why : SaveError) → Saves a m (Err why) → IsBare due 11 (unsaved_line why) usual_limit
      → KeepsRenumbered a m due

-- what is due where the ledger of this snapshot is renumbered
abbrev pub IsDueOf : Acceptance → Input → Due → Type 0
IsDueOf a snapshot due = IsRenumberDue a snapshot due.status due.out.items (kept_text due)
