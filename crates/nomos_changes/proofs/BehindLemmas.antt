-- Objects behind which one more comes.
use Rattle.std.proofs.Common.{◌≡◌, ◌==◌, ◌∷◌, ◌++◌, ℕ, Bool, true, false, cond, List, [], Option, Some, option_and_then, sym, ap}
use Rattle.std.proofs.lemmas.List.{append_assoc}
use Rattle.std.specs.Option.{option_to_list}
use Rattle.nomos_machine.proofs.PreservationLaws.{process-found}
use Rattle.nomos_machine.specs.Change.{put_at}
use Rattle.nomos_machine.specs.Objects.{object_at, object_number, process_of}
use Rattle.nomos_machine.specs.State.{State, process_at}
use Rattle.nomos_machine.specs.declared.object.Object.{Object}
use Rattle.nomos_machine.specs.declared.object.Object.TheVariants as object
use Rattle.nomos_machine.specs.declared.object.Process.{Process}
use Rattle.nomos_changes.specs.SmallChanges.{with_object, with_process}

found-before : (n : ℕ) (e : Object) (objects others : List Object) → object_at objects n ≡ Some e
    → object_at (objects ++ others) n ≡ Some e
found-before n e [] others found = absurd cc
found-before n e (o ∷ objects) others found = at (object_number o == n) found (found-before n e objects others)
  where
    at : (b : Bool) → cond b (Some o) (object_at objects n) ≡ Some e
        → (object_at objects n ≡ Some e → object_at (objects ++ others) n ≡ Some e)
        → cond b (Some o) (object_at (objects ++ others) n) ≡ Some e
    at true is rest = is
    at false is rest = rest is

put-before : (n : ℕ) (new : Option Object) (e : Object) (objects others : List Object) → object_at objects n ≡ Some e
    → put_at n new (objects ++ others) ≡ put_at n new objects ++ others
put-before n new e [] others found = absurd cc
put-before n new e (o ∷ objects) others found = at (object_number o == n) found (put-before n new e objects others)
  where
    at : (b : Bool) → cond b (Some o) (object_at objects n) ≡ Some e
        → (object_at objects n ≡ Some e → put_at n new (objects ++ others) ≡ put_at n new objects ++ others)
        → cond b (option_to_list new ++ (objects ++ others)) (o ∷ put_at n new (objects ++ others))
        ≡ cond b (option_to_list new ++ objects) (o ∷ put_at n new objects) ++ others
    at true is rest = sym (append_assoc (option_to_list new) objects others)
    at false is rest = ap (λ os. o ∷ os) (rest is)

module _ (s : State) (pid : ℕ) (p : Process) (o : Object) (there : process_at s pid ≡ Some p) where
  found : object_at s.objects pid ≡ Some (object.Process p)
  found = process-found (object_at s.objects pid) p there

  -- a process is there as before where an object comes
  pub stays-before : process_at (with_object o s) pid ≡ Some p
  stays-before = ap (option_and_then process_of) (found-before pid (object.Process p) s.objects (o ∷ []) found)

  -- and it does not matter whether it becomes another one before that or after it
  pub becomes-before : (q : Process) → with_process pid q (with_object o s) ≡ with_object o (with_process pid q s)
  becomes-before q =
      ap (λ (os : List Object). record (with_object o s) { objects = os })
      (put-before pid (Some (object.Process q)) (object.Process p) s.objects (o ∷ []) found)
