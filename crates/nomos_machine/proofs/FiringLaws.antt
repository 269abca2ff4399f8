-- A firing as what it is: the change that a process of a typed state makes.
use Rattle.std.proofs.Common.{◌≡◌, ℕ, suc, Bool, List, length, Contains, Option, Some, None, refl}
use Rattle.nomos_types.specs.Acceptance.{Acceptance, IsAccepted}
use Rattle.nomos_machine.specs.Change.{Change, changed}
use Rattle.nomos_machine.specs.Deeds.{Deed, changes}
use Rattle.nomos_machine.specs.Optional.{◌>>=◌}
use Rattle.nomos_machine.specs.Readiness.{looks_ready}
use Rattle.nomos_machine.specs.Run.{run}
use Rattle.nomos_machine.specs.State.{State, process_at}
use Rattle.nomos_machine.specs.Step.{deed, state_after, step}
use Rattle.nomos_machine.specs.TypedState.{IsTyped}
use Rattle.nomos_machine.specs.declared.object.Object.{Object}
use Rattle.nomos_machine.specs.declared.object.Object.TheVariants as object
use Rattle.nomos_machine.specs.declared.object.Process.{Process}
use Rattle.nomos_machine.proofs.ChangeLaws.{Replaces}
use Rattle.nomos_machine.proofs.DeedLaws.{deed-goes}
use Rattle.nomos_machine.proofs.FitLaws.{Fits}
use Rattle.nomos_machine.proofs.GasLaws.{KeepsGas}
use Rattle.nomos_machine.proofs.GoesLaws.{Goes, acts, faulty, waits}
use Rattle.nomos_machine.proofs.PlainLaws.{run-by_any_steps}
use Rattle.nomos_machine.proofs.PreservationLaws.{process_at-there, step-keeps}

-- The process that fires, the change that it makes, and the objects that are replaced.
pub record FiringChange (a : Acceptance) (s t : State) : Type 0 where
  pub p : Process
  pub there : Contains s.objects (object.Process p)
  pub c : Change
  pub makes : deed a s p ≡ Some (changes c)
  pub olds : List Object
  pub replaces : Replaces c.places s.objects olds
  pub fits : Fits a s c
  pub keeps : KeepsGas s c olds
  pub after : changed s c ≡ t

module _ {a : Acceptance} (accepted : IsAccepted a) {s : State} (typed : IsTyped a s) where
  goes-fires : (p : Process) → Contains s.objects (object.Process p) → (ready : Bool) (d : Option Deed) → deed a s p ≡ d
      → Goes a s ready d → (t : State) → (d >>= state_after s) ≡ Some t → FiringChange a s t
  goes-fires p there _ _ does (acts c olds replaces fits keeps) t is = record {
    p = p;
    there = there;
    c = c;
    makes = does;
    olds = olds;
    replaces = replaces;
    fits = fits;
    keeps = keeps;
    after = one-state is;
  }
    where
      one-state : Some (changed s c) ≡ Some t → changed s c ≡ t
      one-state e = cc
  goes-fires p there _ _ does (faulty f) t is = absurd cc
  goes-fires p there _ _ does waits t is = absurd cc

  -- every step is one
  pub step-fires : (pid : ℕ) (t : State) → step a s pid ≡ Some t → FiringChange a s t
  step-fires pid t is = at (process_at s pid) refl is
    where
      at : (o : Option Process) → process_at s pid ≡ o → ((o >>= deed a s) >>= state_after s) ≡ Some t
          → FiringChange a s t
      at (Some p) found steps =
          let (there, number) = process_at-there s pid p found in
          goes-fires p there (looks_ready a s p) (deed a s p) refl (deed-goes accepted typed there) t steps
      at None found steps = absurd cc

-- ---- runs

-- What holds of a state and itself, and goes on through each step from a typed state, as the change that it is, holds
-- from the first state of a run to its last one.
pub run-by_steps : {a : Acceptance} → IsAccepted a → (P : ℕ → State → State → Type 0) → ((s : State) → P 0 s s)
    → ((n : ℕ) (s u t : State) → IsTyped a s → FiringChange a s u → P n u t → P (suc n) s t)
    → (s t : State) (pids : List ℕ) → IsTyped a s → run a s pids ≡ Some t → P (length pids) s t
run-by_steps {a} accepted P same goes s t pids typed is =
    run-by_any_steps a (λ n s t. IsTyped a s → P n s t) (λ s typed. same s)
    (λ n s u t pid steps rest typed. goes n s u t typed (step-fires accepted typed pid u steps)
    (rest (step-keeps accepted typed pid u steps).typed)) s t pids is typed
