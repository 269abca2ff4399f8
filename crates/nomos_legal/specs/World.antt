-- Worlds: a batch under way, with the ledger that it began from.
use Rattle.std.specs.Prelude.{◌≡◌, ℕ, List, [], ◌∷◌, map, Some}
use Rattle.nomos_ir.specs.declared.ids.CodeId.{CodeId}
use Rattle.nomos_types.specs.Acceptance.{Acceptance}
use Rattle.nomos_machine.specs.Starting.{cleared}
use Rattle.nomos_machine.specs.State.{State, process_at}
use Rattle.nomos_machine.specs.Step.{step}
use Rattle.nomos_machine.specs.declared.object.Process.{Process}
use Rattle.nomos_legal.specs.Ledger.{Contracts, LedgerState, AreNamed}
use Rattle.nomos_legal.specs.Batch.{after_starts}
use Rattle.nomos_legal.specs.declared.journal.Firing.{Firing}
use Rattle.nomos_legal.specs.declared.resolved.Resolved.{Resolved}

-- A batch under way: what it began from, what was fired in it, and the state that it has come to.
pub record WorldState : Type 0 where
  -- the ledger before the batch
  pub origin : LedgerState
  -- the starts of the batch's lines, as they were resolved
  pub starts : List Resolved
  pub contracts : Contracts
  pub firings : List Firing
  -- for each firing the instruction that was fired
  pub places : List CodeId
  pub state : State

-- what holds of every world
abbrev pub IsWorld : WorldState → Type 0
IsWorld w = AreNamed w.origin.accounts w.contracts w.state.balances

-- the ledger after the starts of the batch, before any firing
abbrev pub ledger_begun : Acceptance → WorldState → LedgerState
ledger_begun a w = after_starts a w.origin w.starts

-- the numbers of the processes that fired
abbrev pub pids_of : List Firing → List ℕ
pids_of firings = map (λ f. f.pid) firings

-- From the first state these processes fire one after another, each at this instruction, and lead to the second state.
pub data FiresAt (a : Acceptance) : State → List ℕ → List CodeId → State → Type 0 where
  done : (s : State) → FiresAt a s [] [] s
  fires : (s t u : State) (pid : ℕ) (p : Process) (pids : List ℕ) (places : List CodeId) → process_at s pid ≡ Some p
      → step a s pid ≡ Some t → FiresAt a t pids places u → FiresAt a s (pid ∷ pids) (p.code ∷ places) u

-- the ledger that a batch leaves which stays
abbrev pub committed : WorldState → LedgerState
committed w = record w.origin { contracts = w.contracts; state = cleared w.state }
