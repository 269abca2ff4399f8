-- How far a walk over a script has come, from any ledger.
use Rattle.std.specs.Prelude.{◌≡◌, ℕ, List}
use Rattle.nomos_types.specs.Acceptance.{Acceptance}
use Rattle.nomos_script.specs.declared.item.ScriptItem.{ScriptItem}
use Rattle.nomos_legal.specs.Ledger.{LedgerState}
use Rattle.nomos_legal.specs.Legal.{TellsFrom}
use Rattle.nomos_legal.specs.Passage.{Passage}
use Rattle.nomos_legal.specs.declared.journal.Entry.{Entry}
use Rattle.nomos_legal.specs.declared.journal.Journal.{Journal}
use Rattle.nomos_walk.specs.WalkState.{WalkState}
use Rattle.nomos_walk.specs.Walks.{walk_of}
use Rattle.nomos_walk.specs.declared.papers.WantedTexts.{WantedTexts}

-- a journal of its parts
abbrev pub journal_of : ℕ → List Entry → Journal
journal_of limit entries = record { limit = limit; entries = entries }

-- From the first ledger a walk has come behind these items: these entries are kept, these passages are what became of
-- the items, they lead to this ledger, and this is the walk behind them.
pub record HasCome (a : Acceptance) (first : LedgerState) (limit : ℕ) (wanted : WantedTexts) (items : List ScriptItem)
    (entries : List Entry) (ps : List Passage) (l : LedgerState) (w : WalkState) : Type 0 where
  pub tells : TellsFrom a first items (journal_of limit entries) ps l
  pub walk : w ≡ walk_of a limit wanted ps
