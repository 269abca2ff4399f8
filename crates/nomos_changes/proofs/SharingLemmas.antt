-- Two processes that become others, and what an acquire and a release come to.
use Rattle.std.proofs.Common.{◌≡◌, ◌≢◌, ◌==◌, ◌∙◌, ℕ, Bool, true, false, List, [], Option, Some, None, if◌then◌else◌, option_and_then, sym, ap, refl, arith, append-nil}
use Rattle.std.proofs.lemmas.Bool.{eqb-false}
use Rattle.std.proofs.lemmas.List.Elements.{All-nil, All-cons}
use Rattle.nomos_ir.specs.Value.{Value}
use Rattle.nomos_types.specs.Acceptance.{Acceptance}
use Rattle.nomos_deeds.specs.Acting.{CanAct}
use Rattle.nomos_deeds.specs.Acts.{another}
use Rattle.nomos_deeds.specs.declared.act.Acquire.{Acquire}
use Rattle.nomos_deeds.specs.declared.act.Act.TheVariants as act
use Rattle.nomos_deeds.specs.declared.act.Release.{Release}
use Rattle.nomos_machine.specs.Change.{Change, made}
use Rattle.nomos_machine.specs.Deeds.{with_other}
use Rattle.nomos_machine.specs.Objects.{object_number, process_of}
use Rattle.nomos_machine.specs.Optional.{◌>>=◌}
use Rattle.nomos_machine.specs.State.{State, process_at}
use Rattle.nomos_machine.specs.declared.object.Object.{Object}
use Rattle.nomos_machine.specs.declared.object.Object.TheVariants as object
use Rattle.nomos_machine.specs.declared.object.Process.{Process}
use Rattle.nomos_machine.proofs.PreservationLaws.{process_at-there}
use Rattle.nomos_machine.proofs.PutLaws.{object_at-other}
use Rattle.nomos_changes.specs.Performing.{made_by_act}
use Rattle.nomos_changes.specs.Sharings.{acquired, acquiring, provides_linear, provides_shared, released, releasing, with_two}
use Rattle.nomos_changes.specs.SmallChanges.{Becomes, with_process}
use Rattle.nomos_changes.proofs.MadeLemmas.{can-acts, one-some, same-state}

-- ---- a process beside the one that acts

module _ (s : State) (pid other : ℕ) (p q : Process) (there : process_at s pid ≡ Some p)
    (beside : process_at s other ≡ Some q) (apart : q.pid ≢ p.pid) where
  -- it is there as before
  beside-stays : (r : Process) → r.pid ≡ p.pid → process_at (with_process pid r s) other ≡ Some q
  beside-stays r keeps =
      let own : p.pid ≡ pid = (process_at-there s pid p there).1 in
      let others : q.pid ≡ other = (process_at-there s other q beside).1 in
      ap (option_and_then process_of)
      (object_at-other pid other (Some (object.Process r)) s.objects (λ same. apart (others ∙ sym same ∙ sym own))
      (All-cons (λ (e : Object). object_number e ≡ pid) (object.Process r) [] (keeps ∙ own)
      (All-nil (λ (e : Object). object_number e ≡ pid))))
      ∙ beside

  -- and becomes another one too
  pub two-become : (t u : State) (r : Process) (g : Process → Process) → r.pid ≡ p.pid → t ≡ with_process pid r s
      → Becomes t other g u → u ≡ with_two s pid r other (g q)
  two-become t u r g keeps is next =
      next q (ap (λ (t : State). process_at t other) is ∙ beside-stays r keeps)
      ∙ ap (with_process other (g q)) is

-- ---- these are the states in which the change of the machine's table is made

module _ (a : Acceptance) (s : State) (p : Process) where
  both-placed : (after contract : Process) (k : ℕ) → contract.pid ≡ k
      → (with_two s p.pid after k contract).objects ≡ (made s (with_other a s p after contract)).objects
  both-placed after contract k number =
      ap (λ (n : ℕ). (with_two s p.pid after n contract).objects) (sym number) ∙ sym (append-nil _)

  -- the changes that an acquire and a release make
  abbrev acquires_from : Acquire → Process → Change
  acquires_from acquire q =
      record (with_other a s p (acquiring acquire s.next_name p) (provides_linear acquire s.next_name q))
      { next_type = Some acquire.goes }

  abbrev releases_to : Release → Process → Change
  releases_to release q = with_other a s p (releasing release p) (provides_shared release q)

  acquired-made : (acquire : Acquire) (q : Process) → q.pid ≡ acquire.other
      → acquired acquire s p.pid p q ≡ made s (acquires_from acquire q)
  acquired-made acquire q number =
      same-state (acquired acquire s p.pid p q) (made s (acquires_from acquire q))
      (both-placed (acquiring acquire s.next_name p) (provides_linear acquire s.next_name q) acquire.other number)
      (omega arith) refl refl refl (omega arith) (sym (append-nil s.results)) refl

  released-made : (release : Release) (q : Process) → q.pid ≡ release.other
      → released release s p.pid p q ≡ made s (releases_to release q)
  released-made release q number =
      same-state (released release s p.pid p q) (made s (releases_to release q))
      (both-placed (releasing release p) (provides_shared release q) release.other number)
      (omega arith) (omega arith) (sym (append-nil s.types)) refl (omega arith) (sym (append-nil s.results)) refl

-- ---- the change that an act makes

-- a process of another number is there, and the act goes on with it
another-there : (p : Process) (o : Option Process) (go : Process → Option Change) (c : Change)
    → (o >>= another p >>= go) ≡ Some c → (q : Process) × (o ≡ Some q) × (q.pid ≢ p.pid) × (go q ≡ Some c)
another-there p None go c is = absurd cc
another-there p (Some q) go c is = at (q.pid == p.pid) refl is
  where
    at : (b : Bool) → (q.pid == p.pid) ≡ b → ((if b then None else Some q) >>= go) ≡ Some c
        → (r : Process) × (Some q ≡ Some r) × (r.pid ≢ p.pid) × (go r ≡ Some c)
    at true same is = absurd cc
    at false apart is = (q, refl, eqb-false q.pid p.pid apart, is)

module _ (a : Acceptance) (s : State) (pid : ℕ) (vs : List Value) where
  pub acquire-made : (acquire : Acquire) (t : State) → CanAct a s pid vs (act.Acquire acquire)
      → ((p q : Process) → process_at s pid ≡ Some p → process_at s acquire.other ≡ Some q → q.pid ≢ p.pid
      → t ≡ acquired acquire s pid p q) → t ≡ made_by_act a s pid vs (act.Acquire acquire)
  acquire-made acquire t can does =
      let acts = can-acts a s pid vs (act.Acquire acquire) can in
      let p = acts.process in
      let beside = another-there p (process_at s acquire.other) (λ q. Some (acquires_from a s p acquire q)) acts.change
      acts.changes in
      let q = beside.0 in
      does p q acts.there beside.1 beside.2
      ∙ ap (λ (n : ℕ). acquired acquire s n p q) (sym acts.number)
      ∙ acquired-made a s p acquire q (process_at-there s acquire.other q beside.1).1
      ∙ ap (made s) (one-some _ _ beside.3)
      ∙ sym acts.makes

  pub release-made : (release : Release) (t : State) → CanAct a s pid vs (act.Release release)
      → ((p q : Process) → process_at s pid ≡ Some p → process_at s release.other ≡ Some q → q.pid ≢ p.pid
      → t ≡ released release s pid p q) → t ≡ made_by_act a s pid vs (act.Release release)
  release-made release t can does =
      let acts = can-acts a s pid vs (act.Release release) can in
      let p = acts.process in
      let beside = another-there p (process_at s release.other) (λ q. Some (releases_to a s p release q)) acts.change
      acts.changes in
      let q = beside.0 in
      does p q acts.there beside.1 beside.2
      ∙ ap (λ (n : ℕ). released release s n p q) (sym acts.number)
      ∙ released-made a s p release q (process_at-there s release.other q beside.1).1
      ∙ ap (made s) (one-some _ _ beside.3)
      ∙ sym acts.makes
