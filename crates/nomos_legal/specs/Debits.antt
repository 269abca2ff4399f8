-- What accounts pay along a journal: for each start once, and for no firing anything.
use Rattle.std.specs.Prelude.{◌≡◌, ℕ, suc, List, [], map, Option, Some, None, take, slice_get}
use Rattle.nomos_ir.specs.declared.declaration.ProcDecl.{ProcDecl}
use Rattle.nomos_types.specs.Acceptance.{Acceptance}
use Rattle.nomos_types.specs.Amount.{dths}
use Rattle.nomos_machine.specs.Balances.{HavePaid, NoBalanceFalls}
use Rattle.nomos_machine.specs.Run.{run}
use Rattle.nomos_machine.specs.State.{State}
use Rattle.nomos_script.specs.declared.item.ScriptItem.{ScriptItem}
use Rattle.nomos_script.specs.declared.item.ScriptItem.TheVariants as item
use Rattle.nomos_script.specs.declared.item.Start.{Start}
use Rattle.nomos_legal.specs.Batch.{AllStart, after_starts}
use Rattle.nomos_legal.specs.Legal.{firings_in}
use Rattle.nomos_legal.specs.Passage.{Passage}
use Rattle.nomos_legal.specs.declared.journal.End.{End}
use Rattle.nomos_legal.specs.declared.journal.End.TheVariants as end
use Rattle.nomos_legal.specs.declared.journal.Entry.{Entry}
use Rattle.nomos_legal.specs.declared.resolved.Resolved.{Resolved}

-- the bound of a declaration, in Dths: the potential with which its process begins
abbrev pub declared_dths : Acceptance → Option ProcDecl → ℕ
declared_dths a (Some d) = dths a.annotations d.amount
declared_dths a None = 0

-- who pays for a start, and how much
abbrev pub payment_for : Acceptance → Resolved → ℕ × ℕ
payment_for a r = (r.payer, declared_dths a (slice_get a.program.procs r.proc.0))

-- the lines that a passage starts: those of a batch of which no line is refused
abbrev pub lines_unless_refused : List Start → End → List Start
lines_unless_refused lines (end.Refused line cause) = []
lines_unless_refused lines _ = lines

-- the lines that an item of a script starts, by the entry that a journal has of it
abbrev pub lines_started : ScriptItem → Option Entry → List Start
lines_started (item.Batch batch) (Some entry) = lines_unless_refused batch.starts entry.end
lines_started _ _ = []

-- from each front of these firings to the next one no balance falls
abbrev pub NoFiringDebits : Acceptance → State → List ℕ → Type 0
NoFiringDebits a start pids = (k : ℕ) (s t : State) → run a start (take k pids) ≡ Some s
    → run a start (take (suc k) pids) ≡ Some t → NoBalanceFalls s t

-- Accounts are debited once, at starts, and by no firing. The starts of the passage's lines take from each payer their
-- bounds, and from nobody more. No firing lowers a balance, and in the ledger behind the passage no account has less
-- than where the firings began, also where the batch is undone.
pub record DebitsOnce (a : Acceptance) (p : Passage) : Type 0 where
  pub starts : List Resolved
  pub begun : AllStart a p.before (lines_started p.item p.entry) starts
  pub start : p.start ≡ after_starts a p.before starts
  pub paid : HavePaid (map (payment_for a) starts) p.before.state p.start.state
  pub firings : NoFiringDebits a p.start.state (firings_in p.entry)
  pub after : NoBalanceFalls p.start.state p.after.state
