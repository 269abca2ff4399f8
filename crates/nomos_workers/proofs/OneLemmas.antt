-- One worker's firings, one after another, and how they end.
use Rattle.std.proofs.Common.{◌≡◌, ◌∙◌, ℕ, ◌+◌, ◌<◌, List, [], ◌∷◌, ◌++◌, length, All, refl, sym, ap, subst, arith, length-append}
use Rattle.std.proofs.lemmas.List.{map-append}
use Rattle.std.proofs.lemmas.List.Elements.{All-nil, All-push}
use Rattle.nomos_types.specs.Acceptance.{Acceptance, IsAccepted}
use Rattle.nomos_machine.specs.Policies.{FollowsPolicy, IsChosen, IsChosenAfter}
use Rattle.nomos_machine.specs.Policies as policies
use Rattle.nomos_machine.specs.State.{State}
use Rattle.nomos_machine.specs.declared.policy.Policy.{Policy}
use Rattle.nomos_deeds.specs.Acting.{HasNumbers}
use Rattle.nomos_legal.specs.Ending.{EndsAs, IsAllowed}
use Rattle.nomos_legal.specs.Legal.{Aborts}
use Rattle.nomos_legal.specs.StandsFor.{WorldStandsFor}
use Rattle.nomos_legal.specs.World.{WorldState, pids_of, ledger_begun}
use Rattle.nomos_legal.specs.declared.journal.End.{End}
use Rattle.nomos_legal.specs.declared.journal.End.TheVariants as end
use Rattle.nomos_legal.specs.declared.journal.Firing.{Firing}
use Rattle.nomos_legal.proofs.WorldLaws.{world-rises}
use Rattle.nomos_ledger.specs.Calls.{HasFired}
use Rattle.nomos_ledger.proofs.StartLaws.{fresh-start}
use Rattle.nomos_ledger.specs.Running.{MayRun}
use Rattle.nomos_workers.specs.mirror.WorkerSteps.{HasMade, firing_of}
use Rattle.nomos_workers.proofs.PolicyLaws.{follows-push}

-- worlds with one origin and the same starts have one start
pub same-start : (a : Acceptance) (v w : WorldState) → w.origin ≡ v.origin → w.starts ≡ v.starts
    → ledger_begun a w ≡ ledger_begun a v
same-start a v w origin starts = rw (origin, starts) refl

-- ---- firings

module _ (p : Policy) (a : Acceptance) where
  pub made-none : (limit : ℕ) (w : WorldState) → MayRun a limit w → HasMade p a 0 0 w w
  made-none limit w may =
      let nothing : FollowsPolicy p a (ledger_begun a w).state 0 [] (ledger_begun a w).state 0 =
      policies.done (ledger_begun a w).state 0 in
      let reached = subst (λ (s : State). FollowsPolicy p a (ledger_begun a w).state 0 [] s 0)
      (fresh-start a w may.stands may.fresh) nothing in
      record {
        stands = may.stands;
        origin = refl;
        starts = refl;
        count = ap length may.fresh;
        passes = subst (All (λ (f : Firing). f.pass ≡ 0)) (sym may.fresh) (All-nil (λ (f : Firing). f.pass ≡ 0));
        follows =
            subst (λ (pids : List ℕ). FollowsPolicy p a (ledger_begun a w).state 0 pids w.state 0)
            (sym (ap pids_of may.fresh)) reached;
      }

  -- one firing more
  pub made-more : (made last pid : ℕ) (before w u : WorldState) → HasMade p a made last before w
      → IsChosen p a w.state last pid → HasFired a w (firing_of pid) u → WorldStandsFor a u
      → HasMade p a (made + 1) pid before u
  made-more made last pid before w u has chosen fired stands =
      let origin : u.origin ≡ w.origin = ap (λ (x : WorldState). x.origin) fired.is in
      let starts : u.starts ≡ w.starts = ap (λ (x : WorldState). x.starts) fired.is in
      let firings : u.firings ≡ w.firings ++ firing_of pid ∷ [] = ap (λ (x : WorldState). x.firings) fired.is in
      let same : ledger_begun a u ≡ ledger_begun a w = same-start a w u origin starts in
      let pids : pids_of u.firings ≡ pids_of w.firings ++ pid ∷ [] = ap pids_of firings
      ∙ map-append (λ (f : Firing). f.pid) w.firings (firing_of pid ∷ []) in
      let counted : length u.firings ≡ length w.firings + 1 = ap length firings
      ∙ length-append w.firings (firing_of pid ∷ []) in
      let pushed = follows-push pid has.follows chosen fired.steps in
      record {
        stands = stands;
        origin = origin ∙ has.origin;
        starts = starts ∙ has.starts;
        count = omega (arith, counted, has.count);
        passes =
            subst (All (λ (f : Firing). f.pass ≡ 0)) (sym firings)
            (All-push (λ (f : Firing). f.pass ≡ 0) w.firings (firing_of pid) has.passes refl);
        follows = rw (same, pids) pushed;
      }

  -- the next numbers are far from the greatest before the limit
  pub made-numbers : IsAccepted a → (limit made last : ℕ) (before w : WorldState) → MayRun a limit before
      → HasMade p a made last before w → made < limit → HasNumbers w.state
  made-numbers accepted limit made last before w may has few =
      let rises = world-rises accepted has.stands in
      let same : (ledger_begun a w).state ≡ before.state =
      ap (λ l. l.state) (same-start a before w has.origin has.starts) ∙ fresh-start a before may.stands may.fresh in
      let objects : (ledger_begun a w).state.next_object ≡ before.state.next_object =
      ap (λ (s : State). s.next_object) same in
      let names : (ledger_begun a w).state.next_name ≡ before.state.next_name = ap (λ (s : State). s.next_name) same in
      record {
        object = omega (arith, rises.objects, objects, has.count, may.objects);
        name = omega (arith, rises.names, names, has.count, may.names);
      }

  -- ---- ends

  -- an abort there is the policy's
  pub made-aborts : (made last : ℕ) (before w : WorldState) (e : End) → HasMade p a made last before w
      → Aborts (IsChosen p a w.state last) e
      → Aborts (IsChosenAfter p a (ledger_begun a w).state (pids_of w.firings) w.state) e
  made-aborts made last before w (end.Aborted pid f) has chosen =
      record { last = last; follows = has.follows; chosen = chosen }
  made-aborts made last before w end.Committed has chosen = tt
  made-aborts made last before w end.Blocked has chosen = tt
  made-aborts made last before w end.Deposited has chosen = tt
  made-aborts made last before w (end.Steps n) has chosen = tt
  made-aborts made last before w (end.Refused line cause) has chosen = tt

  -- an end that a state gives is no abort
  pub ends-no_abort : (s : State) (count limit last : ℕ) (w : WorldState) (e : End) → EndsAs a s count limit e
      → IsAllowed a s count limit e × Aborts (IsChosen p a w.state last) e
  ends-no_abort s count limit last w end.Committed ends = (ends, tt)
  ends-no_abort s count limit last w end.Blocked ends = (ends, tt)
  ends-no_abort s count limit last w (end.Steps n) ends = (ends, tt)
  ends-no_abort s count limit last w (end.Aborted pid f) ends = absurd ends
  ends-no_abort s count limit last w end.Deposited ends = absurd ends
  ends-no_abort s count limit last w (end.Refused line cause) ends = absurd ends

  -- what the policy fired, and an end there
  pub made-ends : (limit made last : ℕ) (before w u : WorldState) (e : End) → HasMade p a made last before w → u ≡ w
      → IsAllowed a w.state (length w.firings) limit e → Aborts (IsChosen p a w.state last) e
      → IsAllowed a u.state (length u.firings) limit e
      × Aborts (IsChosenAfter p a (ledger_begun a u).state (pids_of u.firings) u.state) e
  made-ends limit made last before w u e has same allowed aborts =
      rw same (allowed, made-aborts made last before w e has aborts)
