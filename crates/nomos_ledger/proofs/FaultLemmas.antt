-- The lowest process that has a fault, found among those that are ready.
use Rattle.std.proofs.Common.{◌≡◌, ℕ, zero, suc, ◌<◌, ◌≤◌, Option, Some, None, IsSome, refl, subst, ap, arith, ⊎_elim}
use Rattle.std.proofs.lemmas.Bool.{cases_lt}
use Rattle.std.proofs.lemmas.List.Elements.{All-contains}
use Rattle.nomos_ledger.proofs.RestLemmas.{none-zero}
use Rattle.nomos_types.specs.Acceptance.{Acceptance}
use Rattle.nomos_machine.specs.Deeds.{Deed}
use Rattle.nomos_machine.specs.Objects.{object_number}
use Rattle.nomos_machine.specs.Optional.{◌>>=◌}
use Rattle.nomos_machine.specs.Run.{IsNextReady}
use Rattle.nomos_machine.specs.State.{State, process_at}
use Rattle.nomos_machine.specs.Step.{IsReady, deed, deed_of, fault, fault_in}
use Rattle.nomos_machine.specs.TypedState.{Numbered}
use Rattle.nomos_machine.specs.declared.object.Object.{Object}
use Rattle.nomos_machine.specs.declared.object.Object.TheVariants as object
use Rattle.nomos_machine.specs.declared.object.Process.{Process}
use Rattle.nomos_machine.proofs.PreservationLaws.{process_at-there}

-- no process up to this one has a fault
abbrev pub NoFaultTo : Acceptance → State → ℕ → Type 0
NoFaultTo a s after = (q : ℕ) → q ≤ after → fault a s q ≡ None

module _ (a : Acceptance) (s : State) where
  -- who is not ready has no fault
  waits-faultless : (o : Option Deed) → ¬ (IsSome o) → (o >>= fault_in) ≡ None
  waits-faultless None waits = refl
  waits-faultless (Some d) waits = absurd (waits refl)

  pub not_ready-faultless : (q : ℕ) → ¬ (IsReady a s q) → fault a s q ≡ None
  not_ready-faultless q waits = waits-faultless (deed_of a s q) waits

  -- who is no process has none
  absent-faultless : (q : ℕ) → process_at s q ≡ None → fault a s q ≡ None
  absent-faultless q absent = ap (λ (o : Option Process). (o >>= deed a s) >>= fault_in) absent

  -- no process up to 0 has one
  pub no_fault-first : Numbered s → NoFaultTo a s 0
  no_fault-first numbered zero below = absent-faultless 0 (none-zero numbered (process_at s 0) refl)
  no_fault-first numbered (suc q) below = absurd (omega (arith, below))

  -- between a process and the next one that is ready none has one
  no_fault-before : (after pid : ℕ) → NoFaultTo a s after → IsNextReady a s after pid → (q : ℕ) → q < pid
      → fault a s q ≡ None
  no_fault-before after pid none next q less =
      ⊎_elim
      (λ (over : after < q). not_ready-faultless q (next.lowest q over less))
      (λ (to : q ≤ after). none q to)
      (cases_lt after q)

  -- and none up to that one, where it has none
  pub no_fault-next : (after pid : ℕ) → NoFaultTo a s after → IsNextReady a s after pid → fault a s pid ≡ None
      → NoFaultTo a s pid
  no_fault-next after pid none next has_none q to =
      ⊎_elim
      (λ (less : q < pid). no_fault-before after pid none next q less)
      (λ (from : pid ≤ q). subst (λ (n : ℕ). fault a s n ≡ None) (omega (arith, to, from)) has_none)
      (cases_lt q pid)

  -- who is ready has a number below the next one
  found-below : Numbered s → (pid : ℕ) (o : Option Process) → process_at s pid ≡ o → IsSome (o >>= deed a s)
      → pid < s.next_object
  found-below numbered pid None found ready = absurd cc
  found-below numbered pid (Some p) found ready =
      let (there, number) = process_at-there s pid p found in
      let below : object_number (object.Process p) < s.next_object =
      All-contains (λ (o : Object). object_number o < s.next_object) s.objects (object.Process p) numbered.below there
      in
      omega (arith, below, number)

  pub ready-below : Numbered s → (pid : ℕ) → IsReady a s pid → pid < s.next_object
  ready-below numbered pid ready = found-below numbered pid (process_at s pid) refl ready
