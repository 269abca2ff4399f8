-- What the firings of a batch cost where the program is under `cost all`.
use Rattle.std.proofs.Common.{◌≡◌, ℕ, ◌+◌, List, [], ◌∷◌, length, Option, Some, None, slice_get, refl, subst, arith}
use Rattle.std.proofs.lemmas.List.{length-map}
use Rattle.nomos_ir.specs.CostAll.{IsUnderCostAll}
use Rattle.nomos_ir.specs.declared.declaration.ProcDecl.{ProcDecl}
use Rattle.nomos_types.specs.Acceptance.{Acceptance, IsAccepted}
use Rattle.nomos_machine.specs.Costs.{PaysFor}
use Rattle.nomos_machine.specs.Optional.{◌>>=◌}
use Rattle.nomos_machine.specs.Starting.{started, value_bindings, channel_bindings}
use Rattle.nomos_machine.specs.Run.{run}
use Rattle.nomos_machine.specs.State.{State}
use Rattle.nomos_machine.specs.TypedState.{IsTyped}
use Rattle.nomos_machine.proofs.CostLaws.{RunCosts, costs-bound, costs-through, run-costs, started-costs}
use Rattle.nomos_legal.specs.Batch.{after_start, after_starts, state_or}
use Rattle.nomos_legal.specs.Ledger.{LedgerState}
use Rattle.nomos_legal.specs.StandsFor.{WorldStandsFor}
use Rattle.nomos_legal.specs.World.{WorldState, pids_of}
use Rattle.nomos_legal.specs.declared.resolved.Resolved.{Resolved}
use Rattle.nomos_legal.proofs.WorldLaws.{world-run}

module _ {a : Acceptance} (under : IsUnderCostAll a.program) where
  costs-none : (s : State) → RunCosts a 0 s s
  costs-none s = record { spends = omega arith; charged = omega arith }

  -- a start costs no gas, and its process stands at a `work`
  start-costs : (l : LedgerState) (r : Resolved) → RunCosts a 0 l.state (after_start a l r).state
  start-costs l r = by (slice_get a.program.procs r.proc.0) refl
    where
      by : (o : Option ProcDecl) → slice_get a.program.procs r.proc.0 ≡ o
          → RunCosts a 0 l.state (state_or l.state (o >>= λ d.
          Some (started a l.state d (value_bindings d r.values) (channel_bindings d r.names) r.payer)))
      by (Some d) declared =
          started-costs a under l.state r.proc.0 d declared (value_bindings d r.values) (channel_bindings d r.names)
          r.payer
      by None declared = costs-none l.state

  starts-cost : (l : LedgerState) (rs : List Resolved) → RunCosts a 0 l.state (after_starts a l rs).state
  starts-cost l [] = costs-none l.state
  starts-cost l (r ∷ rs) =
      let next : LedgerState = after_start a l r in
      subst (λ (n : ℕ). RunCosts a n l.state (after_starts a next rs).state) none
      (costs-through a 0 0 l.state next.state (after_starts a next rs).state (start-costs l r) (starts-cost next rs))
    where
      none : 0 + 0 ≡ 0
      none = omega arith

  -- The firings behind the starts of a batch, a unit for each, come to at most twice the gas spent since the ledger
  -- before it, and a unit for each process of that ledger.
  pub begun-pays : IsAccepted a → (l : LedgerState) (rs : List Resolved) → IsTyped a (after_starts a l rs).state
      → (pids : List ℕ) (t : State) → run a (after_starts a l rs).state pids ≡ Some t
      → PaysFor a (length pids) l.state t
  begun-pays accepted l rs typed pids t reached =
      let start : State = (after_starts a l rs).state in
      let fired = run-costs accepted under start t pids typed reached in
      let all = costs-through a 0 (length pids) l.state start t (starts-cost l rs) fired in
      subst (λ (n : ℕ). PaysFor a n l.state t) same (costs-bound a (0 + length pids) l.state t all)
    where
      same : 0 + length pids ≡ length pids
      same = omega arith

  -- so do the firings of a world
  pub world-pays : IsAccepted a → {w : WorldState} → WorldStandsFor a w
      → PaysFor a (length w.firings) w.origin.state w.state
  world-pays accepted {w} stands =
      subst (λ (n : ℕ). PaysFor a n w.origin.state w.state) (length-map w.firings (λ f. f.pid))
      (begun-pays accepted w.origin w.starts stands.start.typed (pids_of w.firings) w.state
      (world-run accepted stands))
