-- A process of a typed state is ready where one look says so, what is decided of a ready one is its step, and each
-- firing keeps gas, balances and owners.
use Rattle.std.proofs.Common.{◌≡◌, ◌∙◌, ◌<◌, ◌↔◌, ◌^◌, ℕ, Bool, true, false, List, Option, Some, None, IsSome, IsTrue, refl, sym, subst, ap, arith}
use Rattle.std.specs.Option.{option_map}
use Rattle.nomos_ir.specs.Value.{Value}
use Rattle.nomos_types.specs.Acceptance.{Acceptance, IsAccepted}
use Rattle.nomos_machine.specs.Balances.{NoBalanceFalls}
use Rattle.nomos_machine.specs.Change.{Change}
use Rattle.nomos_machine.specs.Deeds.{Deed, changes, has_fault}
use Rattle.nomos_machine.specs.Optional.{◌>>=◌}
use Rattle.nomos_machine.specs.Readiness.{looks_ready}
use Rattle.nomos_machine.specs.State.{State, process_at}
use Rattle.nomos_machine.specs.Step.{deed, state_after, step, IsReady}
use Rattle.nomos_machine.specs.TypedState.{IsTyped}
use Rattle.nomos_machine.specs.declared.object.Process.{Process}
use Rattle.nomos_machine.proofs.DeedLaws.{deed-goes}
use Rattle.nomos_machine.proofs.GasLaws.{gas-changed}
use Rattle.nomos_machine.proofs.GoesLaws.{Goes, acts, faulty, waits}
use Rattle.nomos_machine.proofs.OwnerLaws.{name-has_owner}
use Rattle.nomos_machine.proofs.PreservationLaws.{Keeps, process_at-there, step-keeps, ready-told, ready-none}
use Rattle.nomos_deeds.specs.Acting.{CanAct, after_act, change_of, if_changed}
use Rattle.nomos_deeds.specs.Acts.{act_change, doing_deed, if_some_ready, looks_ready_at}
use Rattle.nomos_deeds.specs.Firings.{HaveOneOwner, MayFire}
use Rattle.nomos_deeds.specs.declared.act.Act.{Act}
use Rattle.nomos_deeds.specs.declared.act.Doing.{Doing}
use Rattle.nomos_deeds.specs.declared.act.Doing.TheVariants as doing

-- ---- readiness

-- a process is ready exactly where one look says so
pub looks-ready : (a : Acceptance) (s : State) (pid : ℕ) (looks : Bool) → IsAccepted a → IsTyped a s
    → looks ≡ looks_ready_at a s pid → IsTrue looks ↔ IsReady a s pid
looks-ready a s pid looks accepted typed is =
    subst (λ (b : Bool). IsTrue b ↔ IsReady a s pid) (sym is) (at (process_at s pid) refl)
  where
    never : false ≡ true → ⊥
    never e = cc

    at : (o : Option Process) → process_at s pid ≡ o → IsTrue (if_some_ready a s o) ↔ IsReady a s pid
    at (Some p) found = let told = ready-told accepted typed pid p found in (told.1, told.0)
    at None found = (λ yes. absurd (never yes), λ ready. absurd (ready-none accepted typed pid found ready))

-- ---- what is done

-- what is decided of a ready process is what it does
pub firing : (a : Acceptance) (s : State) (pid : ℕ) (vs : List Value) (answer : Option Doing)
    → ((p : Process) → process_at s pid ≡ Some p → doing_deed a s p vs answer ≡ deed a s p) → IsReady a s pid
    → (p : Process) × (process_at s pid ≡ Some p) × (doing_deed a s p vs answer ≡ deed a s p) × IsSome (deed a s p)
firing a s pid vs answer decides ready = at (process_at s pid) refl ready
  where
    never : IsSome {T = Deed} None → ⊥
    never e = cc

    at : (o : Option Process) → process_at s pid ≡ o → IsSome (o >>= deed a s)
        → (p : Process) × (process_at s pid ≡ Some p) × (doing_deed a s p vs answer ≡ deed a s p) × IsSome (deed a s p)
    at (Some p) found some = (p, found, decides p found, some)
    at None found some = absurd (never some)

-- An act that is decided can be done, and the state after it is the one after the process's step.
pub record Acted (a : Acceptance) (s : State) (pid : ℕ) (vs : List Value) (what : Act) : Type 0 where
  pub can : CanAct a s pid vs what
  pub steps : step a s pid ≡ Some (after_act a s pid vs what)

module _ {a : Acceptance} (accepted : IsAccepted a) {s : State} (may : MayFire a s) (pid : ℕ) (vs : List Value)
    (what : Act) where
  acted-by : (p : Process) → process_at s pid ≡ Some p → (ready : Bool) (d : Option Deed) → Goes a s ready d
      → option_map changes (act_change a s p vs what) ≡ d → deed a s p ≡ d → IsSome d → Acted a s pid vs what
  acted-by p found _ _ (acts c olds replaces fits keeps) makes does some =
      let change : change_of a s pid vs what ≡ Some c =
      ap (λ (o : Option Process). o >>= λ p. act_change a s p vs what) found ∙ one (act_change a s p vs what) makes
      in
      let gas = gas-changed s c olds replaces keeps in
      record {
        can = record {
          change = c;
          makes = change;
          ordered = may.typed.numbered.ascending;
          numbers = may.numbers;
          gas = may.gas;
          gas_after = subst (λ (n : ℕ). n < 2 ^ 96) (sym gas) may.gas;
          gets = keeps.gets;
        };
        steps = ap (λ (o : Option Process). (o >>= deed a s) >>= state_after s) found
            ∙ ap (λ (d : Option Deed). d >>= state_after s) does
            ∙ ap (λ (o : Option Change). Some (if_changed s o)) (sym change);
      }
    where
      one : (o : Option Change) → option_map changes o ≡ Some (changes c) → o ≡ Some c
      one (Some b) e = ap Some (same e)
        where
          same : Some (changes b) ≡ Some (changes c) → b ≡ c
          same e = cc
      one None e = absurd cc
  acted-by p found _ _ (faulty f) makes does some = absurd (never (act_change a s p vs what) makes)
    where
      never : (o : Option Change) → option_map changes o ≡ Some (has_fault f) → ⊥
      never (Some b) e = cc
      never None e = cc
  acted-by p found _ _ waits makes does some = absurd (never some)
    where
      never : IsSome {T = Deed} None → ⊥
      never e = cc

  pub acted : (answer : Option Doing) → answer ≡ Some (doing.Acts what)
      → ((p : Process) → process_at s pid ≡ Some p → doing_deed a s p vs answer ≡ deed a s p) → IsReady a s pid
      → Acted a s pid vs what
  acted answer is decides ready =
      let (p, found, does, some) = firing a s pid vs answer decides ready in
      let (there, number) = process_at-there s pid p found in
      acted-by p found (looks_ready a s p) (deed a s p) (deed-goes accepted may.typed there)
      (ap (doing_deed a s p vs) (sym is) ∙ does) refl some

  -- and that state is typed, has all gas, and no account has less in it
  pub acted-keeps : (answer : Option Doing) → answer ≡ Some (doing.Acts what)
      → ((p : Process) → process_at s pid ≡ Some p → doing_deed a s p vs answer ≡ deed a s p) → IsReady a s pid
      → (t : State) → t ≡ after_act a s pid vs what → Keeps a s t
  acted-keeps answer is decides ready t same =
      let done = acted answer is decides ready in
      step-keeps accepted may.typed pid t (done.steps ∙ ap (λ (u : State). Some u) (sym same))

-- ---- what every firing keeps

-- no account has less where nothing changed
pub unchanged-balances : (s t : State) → t ≡ s → NoBalanceFalls s t
unchanged-balances s t same = subst (NoBalanceFalls s) (sym same) (λ account. omega arith)

-- in a typed state each name of mode R or L that is not outside has one owner
pub typed-owners : (a : Acceptance) → IsAccepted a → (s : State) → IsTyped a s → HaveOneOwner a s
typed-owners a accepted s typed name is inside =
    let (m, has, linear) = is.linear in
    name-has_owner accepted typed name is.own m is.found has linear inside
