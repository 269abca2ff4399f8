-- How far the next numbers rise in a run, that it leaves the accounts and lowers no balance, and its fronts.
use Rattle.std.proofs.Common.{◌≡◌, ◌∙◌, ◌≤◌, ℕ, zero, suc, ◌+◌, List, [], ◌∷◌, ◌++◌, length, take, Option, Some, None, refl, subst, ap, arith}
use Rattle.nomos_machine.proofs.PreservationLaws.{at-most-one}
use Rattle.nomos_types.specs.Acceptance.{Acceptance, IsAccepted}
use Rattle.nomos_machine.specs.Balances.{NoBalanceFalls}
use Rattle.nomos_machine.specs.Change.{Change, changed, paid_out}
use Rattle.nomos_machine.specs.Optional.{◌>>=◌}
use Rattle.nomos_machine.specs.Run.{run}
use Rattle.nomos_machine.specs.State.{State}
use Rattle.nomos_machine.specs.Step.{step}
use Rattle.nomos_machine.specs.TypedState.{IsTyped}
use Rattle.nomos_machine.proofs.BalanceLaws.{changed-balances, balances-through}
use Rattle.nomos_machine.proofs.FiringLaws.{run-by_steps}
use Rattle.nomos_machine.proofs.GasLaws.{paid_in-length, paid_out-length}
use Rattle.nomos_machine.proofs.PlainLaws.{deed-gives}

-- In so many firings both next numbers rise by so many at most, the accounts stay, and neither a balance nor the gas
-- spent falls.
pub record Rises (n : ℕ) (s t : State) : Type 0 where
  pub objects_rise : s.next_object ≤ t.next_object
  pub objects : t.next_object ≤ s.next_object + n
  pub names_rise : s.next_name ≤ t.next_name
  pub names : t.next_name ≤ s.next_name + n
  pub accounts : length t.balances ≡ length s.balances
  pub spends : s.spent ≤ t.spent
  pub balances : NoBalanceFalls s t

change-rises : (s : State) (c : Change) → c.gives ≡ None → Rises 1 s (changed s c)
change-rises s c none = record {
  objects_rise = omega arith;
  objects = omega (arith, at-most-one c.comes);
  names_rise = omega arith;
  names = omega (arith, at-most-one c.next_type);
  accounts = paid_in-length c.gets (paid_out c.gives s.balances) ∙ paid_out-length c.gives s.balances;
  spends = omega arith;
  balances = changed-balances s c none;
}

rises-more : (n : ℕ) (s u t : State) → Rises 1 s u → Rises n u t → Rises (suc n) s t
rises-more n s u t first rest = record {
  objects_rise = omega (arith, first.objects_rise, rest.objects_rise);
  objects = omega (arith, first.objects, rest.objects);
  names_rise = omega (arith, first.names_rise, rest.names_rise);
  names = omega (arith, first.names, rest.names);
  accounts = rest.accounts ∙ first.accounts;
  spends = omega (arith, first.spends, rest.spends);
  balances = balances-through s u t first.balances rest.balances;
}

-- in a run from a typed state
pub run-rises : {a : Acceptance} → IsAccepted a → (s t : State) (pids : List ℕ) → IsTyped a s → run a s pids ≡ Some t
    → Rises (length pids) s t
run-rises {a} accepted s t pids typed is =
    run-by_steps accepted Rises
    (λ s. record {
      objects_rise = omega arith;
      objects = omega arith;
      names_rise = omega arith;
      names = omega arith;
      accounts = refl;
      spends = omega arith;
      balances = λ account. omega arith;
    })
    (λ n s u t typed firing rest. rises-more n s u t (subst (Rises 1 s) firing.after
    (change-rises s firing.c (deed-gives a s firing.p firing.c firing.makes))) rest)
    s t pids typed is

-- ---- one more firing, and fewer

-- a run goes on with a step
pub run-push : (a : Acceptance) (s t u : State) (pids : List ℕ) (pid : ℕ) → run a s pids ≡ Some t
    → step a t pid ≡ Some u
    → run a s (pids ++ pid ∷ []) ≡ Some u
run-push a s t u [] pid is steps =
    let same : s ≡ t = cc in
    ap (λ (x : State). step a x pid >>= λ next. Some next) same
    ∙ ap (λ (o : Option State). o >>= λ next. Some next) steps
run-push a s t u (first ∷ pids) pid is steps = at (step a s first) is (λ v. run-push a v t u pids pid)
  where
    at : (o : Option State) → (o >>= λ next. run a next pids) ≡ Some t
        → ((v : State) → run a v pids ≡ Some t → step a t pid ≡ Some u → run a v (pids ++ pid ∷ []) ≡ Some u)
        → (o >>= λ next. run a next (pids ++ pid ∷ [])) ≡ Some u
    at (Some v) rest goes = goes v rest steps
    at None rest goes = absurd cc

-- each front of a run is one
pub run-front : (a : Acceptance) (s t : State) (pids : List ℕ) → run a s pids ≡ Some t → (k : ℕ)
    → (u : State) × (run a s (take k pids) ≡ Some u)
run-front a s t pids is zero = (s, refl)
run-front a s t [] is (suc k) = (s, refl)
run-front a s t (pid ∷ pids) is (suc k) = at (step a s pid) is (λ u rest. run-front a u t pids rest k)
  where
    at : (o : Option State) → (o >>= λ next. run a next pids) ≡ Some t
        → ((u : State) → run a u pids ≡ Some t → (v : State) × (run a u (take k pids) ≡ Some v))
        → (v : State) × ((o >>= λ next. run a next (take k pids)) ≡ Some v)
    at (Some u) rest front = front u rest
    at None rest front = absurd cc
