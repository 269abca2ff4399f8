-- Typing is kept by every firing, no gas appears or is lost, no balance falls, and readiness is told by one look.
use Rattle.std.proofs.Common.{◌≡◌, ◌∙◌, ◌↔◌, ◌≤◌, ℕ, ◌+◌, Bool, true, List, [], ◌∷◌, length, Contains, Option, Some, None, IsSome, refl, sym, subst, ap, arith}
use Rattle.std.specs.Option.{option_to_list}
use Rattle.nomos_ir.specs.declared.fault.Fault.{Fault}
use Rattle.nomos_types.specs.Acceptance.{Acceptance, IsAccepted}
use Rattle.nomos_machine.specs.Balances.{NoBalanceFalls}
use Rattle.nomos_machine.specs.Change.{changed}
use Rattle.nomos_machine.specs.Deeds.{Deed, changes, has_fault}
use Rattle.nomos_machine.specs.Objects.{object_at, process_of}
use Rattle.nomos_machine.specs.Optional.{◌>>=◌}
use Rattle.nomos_machine.specs.Readiness.{looks_ready}
use Rattle.nomos_machine.specs.Run.{run}
use Rattle.nomos_machine.specs.State.{State, process_at, gas_of}
use Rattle.nomos_machine.specs.Step.{deed, deed_of, state_after, fault_in, step, fault, IsReady}
use Rattle.nomos_machine.specs.TypedState.{IsTyped}
use Rattle.nomos_machine.specs.declared.object.Object.{Object}
use Rattle.nomos_machine.specs.declared.object.Object.TheVariants as object
use Rattle.nomos_machine.specs.declared.object.Process.{Process}
use Rattle.nomos_machine.proofs.BalanceLaws.{step-balances}
use Rattle.nomos_machine.proofs.DeedLaws.{deed-goes}
use Rattle.nomos_machine.proofs.FitLaws.{changed-typed}
use Rattle.nomos_machine.proofs.GasLaws.{gas-changed}
use Rattle.nomos_machine.proofs.GoesLaws.{Goes, acts, faulty, waits}
use Rattle.nomos_machine.proofs.PutLaws.{object_at-found}

-- ---- the process of a number

pub process-found : (o : Option Object) (p : Process) → (o >>= process_of) ≡ Some p → o ≡ Some (object.Process p)
process-found (Some (object.Process q)) p is = ap (λ (r : Process). Some (object.Process r)) (same is)
  where
    same : Some q ≡ Some p → q ≡ p
    same e = cc
process-found (Some (object.Message m)) p is = absurd cc
process-found None p is = absurd cc

-- it is one of the objects, and has the number
pub process_at-there : (s : State) (pid : ℕ) (p : Process) → process_at s pid ≡ Some p
    → Contains s.objects (object.Process p) × (p.pid ≡ pid)
process_at-there s pid p found =
    let is = process-found (object_at s.objects pid) p found in
    let (number, there) = object_at-found pid (object.Process p) s.objects is in
    (there, number)

-- ---- what each firing keeps

-- a state and the one after it
pub record Keeps (a : Acceptance) (s t : State) : Type 0 where
  pub typed : IsTyped a t
  pub gas : gas_of t ≡ gas_of s
  -- both next numbers rise by one at most
  pub objects_rise : s.next_object ≤ t.next_object
  pub objects : t.next_object ≤ s.next_object + 1
  pub names_rise : s.next_name ≤ t.next_name
  pub names : t.next_name ≤ s.next_name + 1
  -- no account has less
  pub balances : NoBalanceFalls s t

pub at-most-one : {X : Type 0} (o : Option X) → length (option_to_list o) ≤ 1
at-most-one (Some x) = omega arith
at-most-one None = omega arith

module _ {a : Acceptance} (accepted : IsAccepted a) {s : State} (typed : IsTyped a s) where
  goes-keeps : (ready : Bool) (d : Option Deed) (t : State) → NoBalanceFalls s t → Goes a s ready d
      → (d >>= state_after s) ≡ Some t → Keeps a s t
  goes-keeps _ _ t falls (acts c olds replaces fits keeps) is =
      let same : changed s c ≡ t = one-state is in
      let kept : Keeps a s (changed s c) = record {
        typed = changed-typed a s c typed fits;
        gas = gas-changed s c olds replaces keeps;
        objects_rise = omega arith;
        objects = omega (arith, at-most-one c.comes);
        names_rise = omega arith;
        names = omega (arith, at-most-one c.next_type);
        balances = subst (NoBalanceFalls s) (sym same) falls;
      } in
      subst (Keeps a s) same kept
    where
      one-state : Some (changed s c) ≡ Some t → changed s c ≡ t
      one-state e = cc
  goes-keeps _ _ t falls (faulty f) is = absurd cc
  goes-keeps _ _ t falls waits is = absurd cc

  -- Every step leads from a typed state to a typed state, keeps all gas, lowers no balance, and takes one new number of
  -- each kind at most.
  pub step-keeps : (pid : ℕ) (t : State) → step a s pid ≡ Some t → Keeps a s t
  step-keeps pid t is = at (process_at s pid) refl is
    where
      at : (o : Option Process) → process_at s pid ≡ o → ((o >>= deed a s) >>= state_after s) ≡ Some t → Keeps a s t
      at (Some p) found steps =
          let (there, number) = process_at-there s pid p found in
          let falls = step-balances a s t pid is in
          goes-keeps (looks_ready a s p) (deed a s p) t falls (deed-goes accepted typed there) steps
      at None found steps = absurd cc

  -- ---- readiness

  goes-ready : (ready : Bool) (d : Option Deed) → Goes a s ready d → IsSome d ↔ (ready ≡ true)
  goes-ready _ _ (acts c olds replaces fits keeps) = (λ some. refl, λ is. refl)
  goes-ready _ _ (faulty f) = (λ some. refl, λ is. refl)
  goes-ready _ _ waits = (λ some. some, λ is. is)

  -- a process is ready exactly where one look says so
  pub ready-told : (pid : ℕ) (p : Process) → process_at s pid ≡ Some p → IsReady a s pid ↔ (looks_ready a s p ≡ true)
  ready-told pid p found =
      let (there, number) = process_at-there s pid p found in
      let told = goes-ready (looks_ready a s p) (deed a s p) (deed-goes accepted typed there) in
      let same : deed_of a s pid ≡ deed a s p = ap (λ (o : Option Process). o >>= deed a s) found in
      (λ ready. told.0 (subst IsSome same ready), λ looks. subst IsSome (sym same) (told.1 looks))

  -- and where there is no process of that number none is ready
  pub ready-none : (pid : ℕ) → process_at s pid ≡ None → ¬ (IsReady a s pid)
  ready-none pid none ready = nothing (subst IsSome (ap (λ (o : Option Process). o >>= deed a s) none) ready)
    where
      nothing : IsSome {T = Deed} None → ⊥
      nothing is = cc

-- ---- one step

-- a process has a step or a fault, and never both
pub step-or_fault : (a : Acceptance) (s : State) (pid : ℕ) (t : State) (f : Fault) → step a s pid ≡ Some t
    → fault a s pid ≡ Some f → ⊥
step-or_fault a s pid t f steps faults = at (deed_of a s pid) steps faults
  where
    at : (d : Option Deed) → (d >>= state_after s) ≡ Some t → (d >>= fault_in) ≡ Some f → ⊥
    at (Some (changes c)) one other = cc
    at (Some (has_fault g)) one other = cc
    at None one other = cc

-- ---- runs

-- a run leads from a typed state to a typed state, and keeps all gas
pub run-keeps : {a : Acceptance} → IsAccepted a → (s t : State) (pids : List ℕ) → IsTyped a s → run a s pids ≡ Some t
    → IsTyped a t × (gas_of t ≡ gas_of s)
run-keeps {a} accepted s t [] typed is =
    let same : s ≡ t = one-state is in
    (subst (IsTyped a) same typed, ap gas_of (sym same))
  where
    one-state : Some s ≡ Some t → s ≡ t
    one-state e = cc
run-keeps {a} accepted s t (pid ∷ pids) typed is =
    at (step a s pid) refl is (λ u keeps. run-keeps accepted u t pids keeps.typed)
  where
    at : (o : Option State) → step a s pid ≡ o → (o >>= λ next. run a next pids) ≡ Some t
        → ((u : State) → Keeps a s u → run a u pids ≡ Some t → IsTyped a t × (gas_of t ≡ gas_of u))
        → IsTyped a t × (gas_of t ≡ gas_of s)
    at (Some u) steps runs rest =
        let keeps = step-keeps accepted typed pid u steps in
        let (typed_t, gas) = rest u keeps runs in
        (typed_t, gas ∙ keeps.gas)
    at None steps runs rest = absurd cc
