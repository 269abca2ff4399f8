-- What the lines of a journal's text tell.
use Rattle.std.specs.Prelude.{ℕ, List, [], ◌∷◌, ◌++◌}
use Rattle.nomos_legal.specs.Ledger.{LedgerState}
use Rattle.nomos_legal.specs.Legal.{batch_limit, entries_of, firings_made}
use Rattle.nomos_legal.specs.Passage.{Passage}
use Rattle.nomos_legal.specs.declared.journal.Journal.{Journal}

pub record Told : Type 0 where
  -- the most firings that a batch may make
  pub limit : ℕ
  -- what became of the items so far
  pub passages : List Passage
  -- the ledger after them
  pub ledger : LedgerState

-- nothing became of no items, from this ledger
abbrev pub nothing_told : LedgerState → ℕ → Told
nothing_told first limit = record { limit = limit; passages = []; ledger = first }

-- what became of one item more
abbrev pub told_with : Told → Passage → Told
told_with told p = record told { passages = told.passages ++ p ∷ []; ledger = p.after }

-- the journal that is told
abbrev pub journal_told : Told → Journal
journal_told told = record { limit = told.limit; entries = entries_of told.passages }

-- the most firings of the next batch
abbrev pub next_limit : Told → ℕ
next_limit told = batch_limit told.limit (firings_made (entries_of told.passages))
