-- Processes without faults.
use Rattle.std.proofs.Common.{◌≡◌, ◌∙◌, ◌≤◌, inl, inr, ℕ, Option, Some, None, IsSome, refl, ap, arith}
use Rattle.std.proofs.lemmas.Bool.{cases_lt}
use Rattle.nomos_ledger.proofs.RestLemmas.{none-zero}
use Rattle.nomos_types.specs.Acceptance.{Acceptance, IsAccepted}
use Rattle.nomos_machine.specs.Deeds.{Deed}
use Rattle.nomos_machine.specs.Optional.{◌>>=◌}
use Rattle.nomos_machine.specs.Run.{IsNextReady}
use Rattle.nomos_machine.specs.State.{State, process_at}
use Rattle.nomos_machine.specs.Step.{IsReady, deed_of, fault, fault_in}
use Rattle.nomos_machine.specs.TypedState.{IsTyped}
use Rattle.nomos_machine.proofs.PreservationLaws.{ready-none}

module _ (a : Acceptance) (s : State) where
  -- a process that is not ready has no fault
  pub no-fault : (pid : ℕ) → ¬ IsReady a s pid → fault a s pid ≡ None
  no-fault pid not_ready = at (deed_of a s pid) not_ready
    where
      at : (d : Option Deed) → ¬ IsSome d → (d >>= fault_in) ≡ None
      at (Some d) never = absurd (never refl)
      at None never = refl

  -- no process up to the next one that is ready has a fault, where that one has none
  pub faultless-to : (after pid : ℕ) → ((other : ℕ) → other ≤ after → fault a s other ≡ None)
      → IsNextReady a s after pid → fault a s pid ≡ None → (other : ℕ) → other ≤ pid → fault a s other ≡ None
  faultless-to after pid none next none_here other within =
      elim (cases_lt after other) [
        | inl over ↦ elim (cases_lt other pid) [
          | inl below ↦ no-fault other (next.lowest other over below)
          | inr least ↦
              let same : other ≡ pid = omega (arith, within, least) in
              ap (fault a s) same ∙ none_here
        ]
        | inr least ↦ none other least
      ]
