-- Firings, one after another, of whatever processes, and how a batch ends behind them.
use Rattle.std.proofs.Common.{◌≡◌, ◌∙◌, ℕ, ◌<◌, length, ap, subst, sym, arith, refl}
use Rattle.nomos_types.specs.Acceptance.{Acceptance, IsAccepted}
use Rattle.nomos_machine.specs.State.{State}
use Rattle.nomos_deeds.specs.Acting.{HasNumbers}
use Rattle.nomos_legal.proofs.WorldLaws.{world-rises}
use Rattle.nomos_legal.specs.Ending.{EndsAs, IsAllowed}
use Rattle.nomos_legal.specs.World.{WorldState, ledger_begun}
use Rattle.nomos_legal.specs.declared.journal.End.{End}
use Rattle.nomos_legal.specs.declared.journal.End.TheVariants as end
use Rattle.nomos_ledger.specs.Running.{MayRun}
use Rattle.nomos_ledger.proofs.StartLaws.{fresh-start}
use Rattle.nomos_tale.specs.mirror.Choices.{EndsHere, HasFiredOn}

-- an end that a state gives is allowed
pub gives-allowed : (a : Acceptance) (s : State) (count limit : ℕ) (e : End) → EndsAs a s count limit e
    → IsAllowed a s count limit e
gives-allowed a s count limit end.Committed ends = ends
gives-allowed a s count limit end.Blocked ends = ends
gives-allowed a s count limit (end.Steps n) ends = ends
gives-allowed a s count limit (end.Aborted pid f) ends = absurd ends
gives-allowed a s count limit end.Deposited ends = absurd ends
gives-allowed a s count limit (end.Refused line cause) ends = absurd ends

-- worlds with one origin and the same starts have one start
same-start : (a : Acceptance) (v w : WorldState) → w.origin ≡ v.origin → w.starts ≡ v.starts
    → ledger_begun a w ≡ ledger_begun a v
same-start a v w origin starts = rw (origin, starts) refl

module _ (a : Acceptance) (limit made : ℕ) (before w : WorldState) where
  -- the next numbers are far from the greatest before the limit
  pub on-numbers : IsAccepted a → MayRun a limit before → HasFiredOn a made before w → made < limit → HasNumbers w.state
  on-numbers accepted may on few =
      let rises = world-rises accepted on.stands in
      let same : (ledger_begun a w).state ≡ before.state =
      ap (λ l. l.state) (same-start a before w on.origin on.starts) ∙ fresh-start a before may.stands may.fresh in
      let objects : (ledger_begun a w).state.next_object ≡ before.state.next_object =
      ap (λ (s : State). s.next_object) same in
      let names : (ledger_begun a w).state.next_name ≡ before.state.next_name = ap (λ (s : State). s.next_name) same in
      record {
        object = omega (arith, rises.objects, objects, on.count, may.objects, few);
        name = omega (arith, rises.names, names, on.count, may.names, few);
      }

  -- an end there is allowed before the limit
  pub ended-allowed : (u : WorldState) (e : End) → HasFiredOn a made before w → u ≡ w → EndsHere a w e → made < limit
      → IsAllowed a u.state (length u.firings) limit e
  ended-allowed u e on same ends few =
      subst (λ (x : WorldState). IsAllowed a x.state (length x.firings) limit e) (sym same)
      (ends limit (omega (arith, on.count, few)))
