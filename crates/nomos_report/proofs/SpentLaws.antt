-- Starts spend no gas.
use Rattle.std.proofs.Common.{◌≡◌, ◌∙◌, ◌+◌, List, [], ◌∷◌, Option, Some, None, slice_get, refl, arith}
use Rattle.nomos_ir.specs.declared.declaration.ProcDecl.{ProcDecl}
use Rattle.nomos_types.specs.Acceptance.{Acceptance}
use Rattle.nomos_machine.specs.Optional.{◌>>=◌}
use Rattle.nomos_machine.specs.Starting.{channel_bindings, started, value_bindings}
use Rattle.nomos_legal.specs.Batch.{after_start, after_starts, state_or}
use Rattle.nomos_legal.specs.Ledger.{LedgerState}
use Rattle.nomos_legal.specs.declared.resolved.Resolved.{Resolved}

start-spent : (a : Acceptance) (l : LedgerState) (r : Resolved) → (after_start a l r).state.spent ≡ l.state.spent
start-spent a l r = at (slice_get a.program.procs r.proc.0)
  where
    at : (d : Option ProcDecl)
        → (state_or l.state (d >>= λ d. Some
        (started a l.state d (value_bindings d r.values) (channel_bindings d r.names) r.payer))).spent
        ≡ l.state.spent
    at (Some d) = let none : l.state.spent + 0 ≡ l.state.spent = omega arith in none
    at None = refl

-- a ledger after starts has as much gas spent as before
pub starts-spent : (a : Acceptance) (l : LedgerState) (rs : List Resolved)
    → (after_starts a l rs).state.spent ≡ l.state.spent
starts-spent a l [] = refl
starts-spent a l (r ∷ rs) = starts-spent a (after_start a l r) rs ∙ start-spent a l r
