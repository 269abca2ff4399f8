-- How the lines of a batch start, one after another, or which of them refuses the batch.
use Rattle.std.specs.Prelude.{ℕ, List, [], ◌∷◌, ◌++◌, Option, Some, None, Ok, Err}
use Rattle.nomos_types.specs.Acceptance.{Acceptance}
use Rattle.nomos_machine.specs.Starting.{started_with}
use Rattle.nomos_machine.specs.State.{State}
use Rattle.nomos_script.specs.declared.item.Start.{Start}
use Rattle.nomos_legal.specs.Ledger.{Contracts, LedgerState}
use Rattle.nomos_legal.specs.LineStarts.{Resolves}
use Rattle.nomos_legal.specs.declared.refusal.Refusal.{Refusal}
use Rattle.nomos_legal.specs.declared.resolved.Resolved.{Resolved}

-- the contracts, with the shared name of a process that starts as a contract
abbrev pub named : Contracts → Option (List ℕ) → ℕ → Contracts
named contracts (Some name) shared = contracts ++ (name, shared) ∷ []
named contracts None shared = contracts

-- the state, or the other one where there is none
abbrev pub state_or : State → Option State → State
state_or s (Some t) = t
state_or s None = s

-- The ledger after one start: the process comes, and where it is a contract, the name that it offers is that of the
-- contract.
abbrev pub after_start : Acceptance → LedgerState → Resolved → LedgerState
after_start a l r = record l {
  contracts = named l.contracts r.contract l.state.next_name;
  state = state_or l.state (started_with a l.state r.proc.0 r.values r.names r.payer);
}

-- the ledger after starts, in order
abbrev pub after_starts : Acceptance → LedgerState → List Resolved → LedgerState
after_starts a l [] = l
after_starts a l (r ∷ rs) = after_starts a (after_start a l r) rs

-- All lines start: they come to these starts. Each line finds the ledger as the lines before it left it.
pub data AllStart (a : Acceptance) : LedgerState → List Start → List Resolved → Type 0 where
  none : (l : LedgerState) → AllStart a l [] []
  line : (l : LedgerState) (start : Start) (r : Resolved) (starts : List Start) (rs : List Resolved)
      → Resolves a l start (Ok r) → AllStart a (after_start a l r) starts rs
      → AllStart a l (start ∷ starts) (r ∷ rs)

-- The line of this number is the first that does not start, and this is why.
pub data OneRefuses (a : Acceptance) : LedgerState → List Start → ℕ → Refusal → Type 0 where
  this : (l : LedgerState) (start : Start) (starts : List Start) (cause : Refusal) → Resolves a l start (Err cause)
      → OneRefuses a l (start ∷ starts) start.line cause
  later : (l : LedgerState) (start : Start) (r : Resolved) (starts : List Start) (line : ℕ) (cause : Refusal)
      → Resolves a l start (Ok r) → OneRefuses a (after_start a l r) starts line cause
      → OneRefuses a l (start ∷ starts) line cause
