-- A mirror of the code: how far the tale of a script has come. No promise stands on it.
use Rattle.std.specs.Prelude.{ℕ, List, false}
use Rattle.nomos_types.specs.Acceptance.{Acceptance}
use Rattle.nomos_script.specs.declared.item.ScriptItem.{ScriptItem}
use Rattle.nomos_legal.specs.Ledger.{LedgerState, empty_ledger}
use Rattle.nomos_legal.specs.Passage.{Passage}
use Rattle.nomos_legal.specs.declared.journal.Entry.{Entry}
use Rattle.nomos_walk.specs.Coming.{HasCome}
use Rattle.nomos_walk.specs.WalkState.{WalkState}
use Rattle.nomos_walk.specs.Walks.{PassesAs}
use Rattle.nomos_walk.specs.declared.papers.WantedTexts.{WantedTexts}
use Rattle.nomos_walk.specs.declared.started.PassedItem.{PassedItem}

-- no text of a walk is wanted
abbrev pub no_texts : WantedTexts
no_texts = record { report = false; text = false; result = false }

-- An item has passed: something became of it.
pub record IsTold {M : Type 0} (before : WalkState) (l : LedgerState) (i : ScriptItem) (passed : PassedItem M)
    (after : WalkState) : Type 0 where
  pub passage : Passage
  pub passes : PassesAs before l i passage passed after

-- The tale has come behind these items, with this ledger and this walk.
pub record HasTold (a : Acceptance) (limit : ℕ) (items : List ScriptItem) (l : LedgerState) (w : WalkState) : Type 0
  where
    pub entries : List Entry
    pub passages : List Passage
    pub come : HasCome a empty_ledger limit no_texts items entries passages l w
