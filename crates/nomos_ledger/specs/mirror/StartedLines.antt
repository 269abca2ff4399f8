-- A mirror of the code: what the start of lines leaves in books.
use Rattle.std.specs.Prelude.{◌≡◌, ℕ, List, ◌++◌, length, Some, Result, Ok, Err}
use Rattle.nomos_ir.specs.declared.or_no_memory.OrNoMemory.{OrNoMemory}
use Rattle.nomos_ir.specs.declared.or_no_memory.OrNoMemory.TheVariants as stop
use Rattle.nomos_types.specs.Acceptance.{Acceptance}
use Rattle.nomos_script.specs.declared.item.Start.{Start}
use Rattle.nomos_legal.specs.Batch.{AllStart, OneRefuses, after_start, after_starts}
use Rattle.nomos_legal.specs.Ledger.{Contracts, LedgerState}
use Rattle.nomos_legal.specs.LineStarts.{Resolves}
use Rattle.nomos_legal.specs.declared.refusal.Refusal.{Refusal}
use Rattle.nomos_legal.specs.declared.resolved.Resolved.{Resolved}
use Rattle.nomos_ledger.specs.mirror.Books.{BooksState, origin_in}

-- The names of accounts, the deposits and the mark are as they were, and contracts came behind those that were there.
pub record Extends (old new : BooksState) : Type 0 where
  pub accounts : new.now.accounts ≡ old.now.accounts
  pub deposits : new.now.deposits ≡ old.now.deposits
  pub marked : new.marked ≡ old.marked
  pub contracts : (more : Contracts) × (new.now.contracts ≡ old.now.contracts ++ more)

-- what the start of a line answers, and the ledger that it leaves
abbrev pub StartsLine : Acceptance → LedgerState → Start → Result Resolved (OrNoMemory Refusal) → LedgerState → Type 0
StartsLine a l start (Ok r) m = Resolves a l start (Ok r) × (m ≡ after_start a l r)
StartsLine a l start (Err (stop.Answer cause)) m = Resolves a l start (Err cause)
StartsLine a l start (Err stop.NoMemory) m = Unit {0}

-- why a batch stops at the line of this number
abbrev pub at_line : ℕ → OrNoMemory Refusal → OrNoMemory (ℕ × Refusal)
at_line line (stop.Answer cause) = stop.Answer (line, cause)
at_line line stop.NoMemory = stop.NoMemory

-- what the start of all lines answers, and the ledger that it leaves
abbrev pub StartsAll : Acceptance → LedgerState → List Start → Result (List Resolved) (OrNoMemory (ℕ × Refusal))
    → LedgerState → Type 0
StartsAll a l starts (Ok rs) m = AllStart a l starts rs × (m ≡ after_starts a l rs)
StartsAll a l starts (Err (stop.Answer refused)) m = OneRefuses a l starts refused.0 refused.1
StartsAll a l starts (Err stop.NoMemory) m = Unit {0}

-- All lines started from these books: the ledger is the one after them, and the one before them is kept.
pub record StartedBatch (a : Acceptance) (before : BooksState) (starts : List Start) (rs : List Resolved)
    (after : BooksState) : Type 0 where
  pub starts_all : AllStart a before.now starts rs
  pub now : after.now ≡ after_starts a before.now rs
  pub marked : after.marked ≡ Some before.now.state
  pub origin : origin_in after (length before.now.contracts) ≡ before.now

-- what the start of a batch answers, and the books that it leaves
abbrev pub StartsBatch : Acceptance → BooksState → List Start → Result (List Resolved) (OrNoMemory (ℕ × Refusal))
    → BooksState → Type 0
StartsBatch a b starts (Ok rs) c = StartedBatch a b starts rs c
StartsBatch a b starts (Err (stop.Answer refused)) c = OneRefuses a b.now starts refused.0 refused.1 × (c ≡ b)
StartsBatch a b starts (Err stop.NoMemory) c = c ≡ b
