-- What goes out of the hands of a process, one thing after the other.
use Rattle.std.proofs.Common.{◌≡◌, ◌∙◌, ◌+◌, ◌<◌, ◌≤◌, ◌∷◌, ℕ, Bool, true, false, List, [], Option, Some, None, length, drop, get_or, refl, sym, ap}
use Rattle.std.specs.Option.{option_map}
use Rattle.nomos_ir.specs.Bindings.{bound_to}
use Rattle.nomos_ir.specs.declared.ids.VarId.{VarId}
use Rattle.nomos_types.specs.Acceptance.{Acceptance}
use Rattle.nomos_deeds.specs.SeenObjects.{seen_process}
use Rattle.nomos_deeds.specs.declared.sight.SeenProcess.{SeenProcess}
use Rattle.nomos_machine.specs.Deeds.{hands_over, hands_over_all, unless_shared}
use Rattle.nomos_machine.specs.Sight.{is_shared_name}
use Rattle.nomos_machine.specs.State.{State, process_at}
use Rattle.nomos_machine.specs.declared.object.Process.{Process}
use Rattle.nomos_changes.specs.SmallChanges.{with_process}
use Rattle.nomos_changes.proofs.BecomesLemmas.{process-put, process-same, process-twice}
use Rattle.nomos_changes.proofs.GivenLemmas.{hands-channel, hands-no_channels}

-- ---- channels that are handed over

module _ (a : Acceptance) (s : State) (p : Process) where
  -- plain fields stay
  hands-seen : (v : VarId) (q : Process) → seen_process (hands_over a s p v q) ≡ seen_process q
  hands-seen v q = at (option_map (is_shared_name a.program s.types) (bound_to v.0 q.channels))
    where
      at : (o : Option Bool) → seen_process (unless_shared a s p v o q) ≡ seen_process q
      at (Some true) = refl
      at (Some false) = refl
      at None = refl

  pub hands_all-seen : (vs : List VarId) (q : Process) → seen_process (hands_over_all a s p vs q) ≡ seen_process q
  hands_all-seen [] q = refl
  hands_all-seen (v ∷ vs) q = hands_all-seen vs (hands_over a s p v q) ∙ hands-seen v q

  -- a reference stays
  pub hands-shared : (v : VarId) (q : Process) (name : ℕ) → Some name ≡ bound_to v.0 q.channels
      → is_shared_name a.program s.types name ≡ true → hands_over a s p v q ≡ q
  hands-shared v q name bound shared =
      ap (λ (o : Option ℕ). unless_shared a s p v (option_map (is_shared_name a.program s.types) o) q) (sym bound)
      ∙ ap (λ (b : Bool). unless_shared a s p v (Some b) q) shared

  -- The second state is the first one, in which the process q at the number handed over some of these channels; without
  -- those that are left as well, it is q without all of them.
  pub record Handed (t : State) (pid : ℕ) (q : Process) (all left : List VarId) : Type 0 where
    pub becomes : Process
    pub keeps : becomes.pid ≡ q.pid
    pub is : t ≡ with_process pid becomes s
    pub still : hands_over_all a s p left becomes ≡ hands_over_all a s p all q

  module _ (pid : ℕ) (q : Process) (there : process_at s pid ≡ Some q) (vs : List VarId) where
    -- at first none is handed over
    pub handed-none : Handed s pid q vs vs
    handed-none = record { becomes = q; keeps = refl; is = sym (process-same s pid q there); still = refl }

    -- then one more
    pub handed-more : (t u : State) (i : ℕ) (d : VarId) → i < length vs → Handed t pid q vs (drop i vs)
        → ((r : Process) → process_at t pid ≡ Some r
        → u ≡ with_process pid (hands_over a t p (get_or vs i d) r) t) → Handed u pid q vs (drop (i + 1) vs)
    handed-more t u i d within so_far next =
        let r = so_far.becomes in
        let v = get_or vs i d in
        record {
          becomes = hands_over a s p v r;
          keeps = ap (λ (x : SeenProcess). x.pid) (hands-seen v r) ∙ so_far.keeps;
          is = next r (ap (λ (t : State). process_at t pid) so_far.is ∙ process-put s pid q r there so_far.keeps)
              ∙ ap (λ (t : State). with_process pid (hands_over a t p v r) t) so_far.is
              ∙ process-twice s pid q r there so_far.keeps (hands_over a s p v r);
          still = hands-channel a s p vs i d r within ∙ so_far.still;
        }

    -- in the end all
    pub handed-all : (t : State) (i : ℕ) → length vs ≤ i → Handed t pid q vs (drop i vs)
        → t ≡ with_process pid (hands_over_all a s p vs q) s
    handed-all t i past so_far =
        so_far.is
        ∙ ap (λ (r : Process). with_process pid r s) (hands-no_channels a s p vs i so_far.becomes past ∙ so_far.still)
