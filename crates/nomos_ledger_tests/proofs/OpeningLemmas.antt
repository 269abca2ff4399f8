-- A state with one account, on which a talk may be opened.
use Rattle.std.proofs.Common.{◌≡◌, ◌∙◌, ◌<◌, ◌^◌, ℕ, Result, Ok, Err, IfOk, false, length, sym, subst, ap, arith}
use Rattle.std.specs.Result.{is_err}
use Rattle.nomos_types.specs.Acceptance.{Acceptance}
use Rattle.nomos_machine.specs.Starting.{opened}
use Rattle.nomos_machine.specs.State.{State, empty}
use Rattle.nomos_machine.proofs.GasLaws.{gas-opened}
use Rattle.nomos_machine.proofs.StartingLaws.{empty-typed, opened-typed}
use Rattle.nomos_deeds.specs.Firings.{MayFire}

-- the account was opened in the state with nothing in it
pub opened-may_fire : {E : Type 0} (a : Acceptance) (s t : State) (dths : ℕ) → s ≡ empty → dths < 2 ^ 96
    → (result : Result ℕ E) → IfOk result (λ account. (account ≡ length s.balances) × (t ≡ opened s dths))
    → is_err result ≡ false → MayFire a t
opened-may_fire a s t dths none small (Ok account) (first, is) well =
    subst (λ (u : State). MayFire a u) (sym (is ∙ ap (λ (u : State). opened u dths) none)) (record {
      typed = opened-typed (empty-typed a) dths;
      gas = omega (arith, small, gas-opened empty dths);
      numbers = record { object = omega arith; name = omega arith };
    })
opened-may_fire a s t dths none small (Err e) it well = absurd cc
