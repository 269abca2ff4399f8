-- What a run costs where a `work` of one unit stands before each other instruction.
use Rattle.std.proofs.Common.{◌≡◌, ◌≤◌, inl, inr, ℕ, suc, ◌+◌, ◌*◌, List, [], ◌∷◌, length, Contains, Option, Some, None, Ok, Err, slice_get, refl, subst, ap, arith}
use Rattle.std.proofs.Math.Nat.{mul-le-mul_left}
use Rattle.std.proofs.lemmas.List.Sums.{sum_by-append}
use Rattle.nomos_ir.specs.CodeParts.{code_terms}
use Rattle.nomos_ir.specs.CostAll.{IsUnderCostAll}
use Rattle.nomos_ir.specs.Value.{Value}
use Rattle.nomos_ir.specs.declared.code_node.CodeNode.{CodeNode}
use Rattle.nomos_ir.specs.declared.declaration.ProcDecl.{ProcDecl}
use Rattle.nomos_ir.specs.declared.ids.VarId.{VarId}
use Rattle.nomos_types.specs.Acceptance.{Acceptance, IsAccepted}
use Rattle.nomos_types.specs.Amount.{dths}
use Rattle.nomos_machine.specs.Change.{Change, made, changed}
use Rattle.nomos_machine.specs.Costs.{PaysFor}
use Rattle.nomos_machine.specs.Deeds.{changes}
use Rattle.nomos_ir.specs.TermsEvaluation.{TermsResult, terms_evaluation}
use Rattle.nomos_machine.specs.Given.{Given, begins}
use Rattle.nomos_machine.specs.Optional.{◌>>=◌}
use Rattle.nomos_machine.specs.Opening.{opens_talk}
use Rattle.nomos_machine.specs.Run.{run}
use Rattle.nomos_machine.specs.Starting.{started}
use Rattle.nomos_machine.specs.State.{State}
use Rattle.nomos_machine.specs.Step.{deed, deed_by}
use Rattle.nomos_machine.specs.TypedState.{IsTyped}
use Rattle.nomos_machine.specs.declared.object.Object.{Object}
use Rattle.nomos_machine.specs.declared.object.Object.TheVariants as object
use Rattle.nomos_machine.specs.declared.object.Process.{Process}
use Rattle.nomos_machine.proofs.ChangeLaws.{Replaces, made-weight}
use Rattle.nomos_machine.proofs.ChargeDeeds.{Charges, deed-charges}
use Rattle.nomos_machine.proofs.FiringLaws.{FiringChange, run-by_steps}
use Rattle.nomos_machine.proofs.IdleLaws.{idle, idle_among, idle-processes, idle-first}

-- Through so many firings: so many units, and one more for each process that is idle at the end, are no more than twice
-- the gas spent meanwhile and one unit for each process that was idle at the start.
pub record RunCosts (a : Acceptance) (n : ℕ) (s t : State) : Type 0 where
  pub spends : s.spent ≤ t.spent
  pub charged : n * a.annotations.unit + a.annotations.unit * idle_among a t.objects + 2 * s.spent
      ≤ 2 * t.spent + a.annotations.unit * idle_among a s.objects

module _ {a : Acceptance} (under : IsUnderCostAll a.program) {s : State} (typed : IsTyped a s) where
  -- what a process does is charged so
  deed-charged : (p : Process) → Contains s.objects (object.Process p) → (c : Change) → deed a s p ≡ Some (changes c)
      → (olds : List Object) → Replaces c.places s.objects olds → Charges a c olds
  deed-charged p there c is olds replaces = at (slice_get a.program.code p.code.0) refl is
    where
      by_values : (n : CodeNode) → slice_get a.program.code p.code.0 ≡ Some n → (r : TermsResult)
          → deed_by a s p n r ≡ Some (changes c) → Charges a c olds
      by_values n stands (Ok vs) does =
          deed-charges a under s typed.numbered.ascending there n stands vs c does olds replaces
      by_values n stands (Err f) does = absurd cc

      at : (o : Option CodeNode) → slice_get a.program.code p.code.0 ≡ o
          → (o >>= λ n. deed_by a s p n (terms_evaluation a.program p.values (code_terms n))) ≡ Some (changes c)
          → Charges a c olds
      at (Some n) stands does = by_values n stands (terms_evaluation a.program p.values (code_terms n)) does
      at None stands does = absurd cc

  -- a firing costs one unit, or leaves one idle process fewer
  change-costs : (c : Change) (olds : List Object) → Replaces c.places s.objects olds → Charges a c olds
      → RunCosts a 1 s (changed s c)
  change-costs c olds replaces charges = record { spends = omega arith; charged = by charges }
    where
      by : Charges a c olds
          → 1 * a.annotations.unit + a.annotations.unit * idle_among a (changed s c).objects + 2 * s.spent
          ≤ 2 * (changed s c).spent + a.annotations.unit * idle_among a s.objects
      by (inl rests) =
          let sum = made-weight (idle a) s c olds replaces in
          let fewer : 1 + idle_among a (made s c).objects ≤ idle_among a s.objects = omega (arith, sum, rests) in
          let times = mul-le-mul_left a.annotations.unit fewer in
          omega (arith, times)
      by (inr (burnt, few)) =
          let sum = made-weight (idle a) s c olds replaces in
          let more : idle_among a (made s c).objects ≤ 1 + idle_among a s.objects = omega (arith, sum, few) in
          let times = mul-le-mul_left a.annotations.unit more in
          omega (arith, times, burnt)

pub firing-costs : {a : Acceptance} → IsUnderCostAll a.program → {s : State} → IsTyped a s → (t : State)
    → FiringChange a s t → RunCosts a 1 s t
firing-costs {a} under {s} typed t firing =
    subst (RunCosts a 1 s) firing.after
    (change-costs under typed firing.c firing.olds firing.replaces
    (deed-charged under typed firing.p firing.there firing.c firing.makes firing.olds firing.replaces))

-- ---- one after another

-- what follows one after another costs what both cost
pub costs-through : (a : Acceptance) (m n : ℕ) (s u t : State) → RunCosts a m s u → RunCosts a n u t
    → RunCosts a (m + n) s t
costs-through a m n s u t first rest =
    let one = first.charged in
    let other = rest.charged in
    record {
      spends = omega (arith, first.spends, rest.spends);
      charged = omega (arith, one, other);
    }

-- a run from a typed state
pub run-costs : {a : Acceptance} → IsAccepted a → IsUnderCostAll a.program → (s t : State) (pids : List ℕ)
    → IsTyped a s → run a s pids ≡ Some t → RunCosts a (length pids) s t
run-costs {a} accepted under s t pids typed is =
    run-by_steps accepted (RunCosts a) (λ s. record { spends = omega arith; charged = omega arith })
    (λ n s u t typed firing rest. both n s u t (firing-costs under typed u firing) rest) s t pids typed is
  where
    both : (n : ℕ) (s u t : State) → RunCosts a 1 s u → RunCosts a n u t → RunCosts a (suc n) s t
    both n s u t first rest = record {
      spends = omega (arith, first.spends, rest.spends);
      charged = omega (arith, first.charged, rest.charged);
    }

-- where objects come of which none is idle, and no gas is spent, nothing is fired
pub costs-nothing : (a : Acceptance) (s t : State) → idle_among a t.objects ≡ idle_among a s.objects → t.spent ≡ s.spent
    → RunCosts a 0 s t
costs-nothing a s t same spent =
    let as_many = ap (λ (n : ℕ). a.annotations.unit * n) same in
    record { spends = omega (arith, spent); charged = omega (arith, spent, as_many) }

-- a process that starts begins at a `work`
module _ (a : Acceptance) (under : IsUnderCostAll a.program) (s : State) (number : ℕ) (d : ProcDecl)
    (declared : slice_get a.program.procs number ≡ Some d) (values : List (VarId × Value)) (channels : List (VarId × ℕ))
    (payer : ℕ) where
  pub started-idle : idle_among a (started a s d values channels payer).objects ≡ idle_among a s.objects
  started-idle =
      let line : Given = record { values = values; lists = []; channels = channels } in
      let gas : ℕ = dths a.annotations d.amount in
      let child : Process = begins d line s.next_object s.next_name gas payer in
      let both = sum_by-append (idle a) s.objects (object.Process child ∷ []) in
      omega (arith, both, idle-first a under number d declared)

  pub started-costs : RunCosts a 0 s (started a s d values channels payer)
  started-costs = costs-nothing a s (started a s d values channels payer) started-idle (omega arith)

  pub opened_talk-costs : RunCosts a 0 s (changed s (opens_talk a s d values channels payer))
  opened_talk-costs = costs-nothing a s (changed s (opens_talk a s d values channels payer)) started-idle (omega arith)

-- ---- the bound

-- So many firings, each a unit, come to no more than twice the gas spent meanwhile, and one unit for each process that
-- there was at the start.
pub costs-bound : (a : Acceptance) (n : ℕ) (s t : State) → RunCosts a n s t → PaysFor a n s t
costs-bound a n s t costs =
    let few = mul-le-mul_left a.annotations.unit (idle-processes a s) in
    omega (arith, costs.spends, costs.charged, few)

-- Where the program is under `cost all` this holds of each run from a typed state.
pub cost-all : {a : Acceptance} → IsAccepted a → IsUnderCostAll a.program → (s t : State) (pids : List ℕ)
    → IsTyped a s → run a s pids ≡ Some t → PaysFor a (length pids) s t
cost-all {a} accepted under s t pids typed is =
    costs-bound a (length pids) s t (run-costs accepted under s t pids typed is)
