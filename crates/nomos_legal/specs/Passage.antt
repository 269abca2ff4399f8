-- Passages: what becomes of one item of a script.
use Rattle.std.specs.Prelude.{◌≡◌, ℕ, ◌≤◌, List, [], length, Option, Some, None}
use Rattle.nomos_types.specs.Acceptance.{Acceptance}
use Rattle.nomos_machine.specs.Run.{run}
use Rattle.nomos_machine.specs.Starting.{cleared}
use Rattle.nomos_machine.specs.State.{State}
use Rattle.nomos_script.specs.declared.item.Batch.{Batch}
use Rattle.nomos_script.specs.declared.item.ScriptItem.{ScriptItem}
use Rattle.nomos_script.specs.declared.item.ScriptItem.TheVariants as item
use Rattle.nomos_legal.specs.Batch.{AllStart, OneRefuses, after_starts}
use Rattle.nomos_legal.specs.Ending.{IsAllowed}
use Rattle.nomos_legal.specs.Ledger.{LedgerState, deposited, FitsDeposits}
use Rattle.nomos_legal.specs.declared.journal.End.{End}
use Rattle.nomos_legal.specs.declared.journal.End.TheVariants as end
use Rattle.nomos_legal.specs.declared.journal.Entry.{Entry}
use Rattle.nomos_legal.specs.declared.refusal.Refusal.{Refusal}
use Rattle.nomos_legal.specs.declared.refusal.Refusal.TheVariants as refusal
use Rattle.nomos_legal.specs.declared.resolved.Resolved.{Resolved}

-- what became of an item
pub record Passage : Type 0 where
  pub item : ScriptItem
  -- what the journal has of it; a `show` has no entry
  pub entry : Option Entry
  -- the ledger before it
  pub before : LedgerState
  -- the ledger from which its firings begin: of a batch the one after its lines started
  pub start : LedgerState
  -- the state to which its firings lead
  pub last : State
  -- the ledger after it
  pub after : LedgerState

-- an end that undoes the batch
abbrev pub Undoes : End → Type 0
Undoes end.Committed = ⊥
Undoes _ = Unit {0}

-- A batch's firings are a run from the state after its start, no longer than its limit, with an end that is allowed
-- for the last state.
pub record RunsTo (a : Acceptance) (most : ℕ) (start : State) (pids : List ℕ) (last : State) (answer : End) : Type 0
  where
    pub reached : run a start pids ≡ Some last
    pub within : length pids ≤ most
    pub allowed : IsAllowed a last (length pids) most answer

-- an item without firings that leads from the one ledger to the other
abbrev pub still : ScriptItem → Option Entry → LedgerState → LedgerState → Passage
still i entry before after = record {
  item = i;
  entry = entry;
  before = before;
  start = before;
  last = before.state;
  after = after;
}

-- the entry of an item without firings
abbrev pub bare : ℕ → End → Option Entry
bare line answer = Some (record { line = line; firings = []; end = answer })

-- the passage of a batch whose lines started
abbrev pub runs : Batch → List ℕ → End → LedgerState → LedgerState → State → LedgerState → Passage
runs batch pids answer before start last after = record {
  item = item.Batch batch;
  entry = Some (record { line = batch.line; firings = pids; end = answer });
  before = before;
  start = start;
  last = last;
  after = after;
}

-- What a passage may be, where a batch may make so many firings.
pub data IsPassage (a : Acceptance) (most : ℕ) : Passage → Type 0 where
  -- a deposit that fits
  deposit : (l : LedgerState) (line units : ℕ) (name : List ℕ) → FitsDeposits l units
      → IsPassage a most
      (still (item.Deposit line name units) (bare line end.Deposited) l (deposited a.annotations.unit l name units))
  -- a deposit that does not fit
  no_deposit : (l : LedgerState) (line units : ℕ) (name : List ℕ) → ¬ FitsDeposits l units
      → IsPassage a most (still (item.Deposit line name units) (bare line (end.Refused line refusal.TooMuchGas)) l l)
  -- a batch of which a line is refused
  refused : (l : LedgerState) (batch : Batch) (line : ℕ) (cause : Refusal) → OneRefuses a l batch.starts line cause
      → IsPassage a most (still (item.Batch batch) (bare batch.line (end.Refused line cause)) l l)
  -- a batch that stays
  stays : (l : LedgerState) (batch : Batch) (starts : List Resolved) (pids : List ℕ) (last : State)
      → AllStart a l batch.starts starts → RunsTo a most (after_starts a l starts).state pids last end.Committed
      → IsPassage a most
      (runs batch pids end.Committed l (after_starts a l starts) last
      (record (after_starts a l starts) { state = cleared last }))
  -- a batch that is undone
  undone : (l : LedgerState) (batch : Batch) (starts : List Resolved) (pids : List ℕ) (last : State) (answer : End)
      → AllStart a l batch.starts starts → RunsTo a most (after_starts a l starts).state pids last answer
      → Undoes answer → IsPassage a most (runs batch pids answer l (after_starts a l starts) last l)
  -- a `show`, which changes nothing
  shown : (l : LedgerState) (line : ℕ) → IsPassage a most (still (item.Show line) None l l)

-- ---- what was deposited

-- the units of a deposit that ended as one
abbrev units_made : ScriptItem → End → ℕ
units_made (item.Deposit line name units) end.Deposited = units
units_made _ _ = 0

-- the units of an item, by the entry that a journal has of it
abbrev units_of : ScriptItem → Option Entry → ℕ
units_of i (Some entry) = units_made i entry.end
units_of i None = 0

-- the units of a deposit that was made
abbrev pub accepted_units : Passage → ℕ
accepted_units p = units_of p.item p.entry
