-- A process that is taken out, changed, and put back.
use Rattle.std.proofs.Common.{◌≡◌, ◌∙◌, ℕ, List, Some, Result, Ok, Err, OnErr, ap}
use Rattle.nomos_machine.specs.Change.{put_at}
use Rattle.nomos_machine.specs.State.{State, process_at}
use Rattle.nomos_machine.specs.declared.object.Object.{Object}
use Rattle.nomos_machine.specs.declared.object.Object.TheVariants as object
use Rattle.nomos_machine.specs.declared.object.Process.{Process}
use Rattle.nomos_changes.specs.SmallChanges.{with_process}
use Rattle.nomos_plain.specs.Parts.{hole}
use Rattle.nomos_plain.proofs.PlaceLemmas.{put_in_hole, put_back}

-- a state with other objects
abbrev pub with_objects : List Object → State → State
with_objects os s = record s { objects = os }

module _ (s t u : State) (pid own : ℕ) (o : Object)
    (taken : t ≡ with_objects (put_at pid (Some (object.Message (hole pid))) s.objects) s)
    (put : u ≡ with_objects (put_at own (Some o) t.objects) t) (same : own ≡ pid) where
  pub put-taken : u ≡ with_objects (put_at pid (Some o) s.objects) s
  put-taken =
      put
      ∙ ap (λ (t : State). with_objects (put_at own (Some o) t.objects) t) taken
      ∙ ap (λ (n : ℕ). with_objects (put_at n (Some o) (put_at pid (Some (object.Message (hole pid))) s.objects)) s)
      same
      ∙ ap (λ os. with_objects os s) (put_in_hole pid o s.objects)

  pub put-taken_back : (p : Process) → process_at s pid ≡ Some p → o ≡ object.Process p → u ≡ s
  put-taken_back p there is =
      put
      ∙ ap (λ (t : State). with_objects (put_at own (Some o) t.objects) t) taken
      ∙ ap (λ (n : ℕ). with_objects (put_at n (Some o) (put_at pid (Some (object.Message (hole pid))) s.objects)) s)
      same
      ∙ ap (λ (o : Object). with_objects (put_at pid (Some o) (put_at pid (Some (object.Message (hole pid))) s.objects))
      s) is
      ∙ ap (λ os. with_objects os s) (put_back pid p s.objects there)

  -- which is another process at the number, of what was taken out
  pub becomes-taken : (f : Process → Process) (k p q : Process) → k ≡ p → q ≡ f k → o ≡ object.Process q
      → u ≡ with_process pid (f p) s
  becomes-taken f k p q was becomes is =
      put-taken
      ∙ ap (λ (o : Object). with_objects (put_at pid (Some o) s.objects) s) is
      ∙ ap (λ (q : Process). with_process pid q s) (becomes ∙ ap f was)

pub on_err : {T E : Type 0} (r : Result T E) {A B : Type 0} → (A → B) → OnErr r A → OnErr r B
on_err (Ok x) goes there = tt
on_err (Err e) goes there = goes there
