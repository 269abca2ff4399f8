-- A process that becomes another one, by one small change after the other.
use Rattle.std.proofs.Common.{◌≡◌, ◌∙◌, ◌==◌, ℕ, Bool, true, false, cond, List, [], ◌∷◌, Option, Some, None, IsSome, Result, Ok, Err, OnOk, refl, sym, ap, option_and_then, eq-eqb}
use Rattle.nomos_machine.specs.Change.{put_at}
use Rattle.nomos_machine.specs.Objects.{object_at, object_number, process_of}
use Rattle.nomos_machine.specs.State.{State, process_at}
use Rattle.nomos_machine.specs.declared.object.Object.{Object}
use Rattle.nomos_machine.specs.declared.object.Object.TheVariants as object
use Rattle.nomos_machine.specs.declared.object.Process.{Process}
use Rattle.nomos_machine.proofs.PreservationLaws.{process_at-there, process-found}
use Rattle.nomos_machine.proofs.PutLaws.{object_at-put}
use Rattle.std.specs.Option.{option_map}
use Rattle.nomos_deeds.specs.SeenObjects.{seen_process}
use Rattle.nomos_deeds.specs.declared.sight.SeenProcess.{SeenProcess}
use Rattle.nomos_changes.specs.SmallChanges.{Becomes, with_fields, with_process}

-- ---- one process after the other at a number

-- what stands at a number is replaced by what comes last
pub put-put : (n : ℕ) (one other : Object) (objects : List Object) → object_number one ≡ n
    → put_at n (Some other) (put_at n (Some one) objects) ≡ put_at n (Some other) objects
put-put n one other [] numbered = refl
put-put n one other (o ∷ objects) numbered =
    at (object_number o == n) refl (eq-eqb (object_number one) n numbered) (put-put n one other objects numbered)
  where
    at : (b : Bool) → (object_number o == n) ≡ b → (object_number one == n) ≡ true
        → put_at n (Some other) (put_at n (Some one) objects) ≡ put_at n (Some other) objects
        → put_at n (Some other) (cond b (one ∷ objects) (o ∷ put_at n (Some one) objects))
        ≡ cond b (other ∷ objects) (o ∷ put_at n (Some other) objects)
    at true here is rest = ap (λ b. cond b (other ∷ objects) (one ∷ put_at n (Some other) objects)) is
    at false here is rest =
        ap (λ b. cond b (other ∷ put_at n (Some one) objects)
        (o ∷ put_at n (Some other) (put_at n (Some one) objects))) here
        ∙ ap (λ os. o ∷ os) rest

module _ (s : State) (pid : ℕ) (p q : Process) (there : process_at s pid ≡ Some p) (keeps : q.pid ≡ p.pid) where
  own : q.pid ≡ pid
  own = keeps ∙ (process_at-there s pid p there).1

  -- the process that was put is there
  pub process-put : process_at (with_process pid q s) pid ≡ Some q
  process-put =
      ap (option_and_then process_of)
      (object_at-put pid (object.Process q) (object.Process p) s.objects
      (process-found (object_at s.objects pid) p there) own)

  -- and it gives way to the next one
  pub process-twice : (r : Process) → with_process pid r (with_process pid q s) ≡ with_process pid r s
  process-twice r = ap (λ (os : List Object). record s { objects = os })
      (put-put pid (object.Process q) (object.Process r) s.objects own)

-- ---- one change after the other

-- a process that became another one becomes the next one
pub becomes-next : (s t u : State) (pid : ℕ) (p q r : Process) → process_at s pid ≡ Some p → q.pid ≡ p.pid
    → t ≡ with_process pid q s → (process_at t pid ≡ Some q → u ≡ with_process pid r t) → u ≡ with_process pid r s
becomes-next s t u pid p q r there keeps is next =
    next (ap (λ (t : State). process_at t pid) is ∙ process-put s pid p q there keeps)
    ∙ ap (with_process pid r) is
    ∙ process-twice s pid p q there keeps r

-- the same, of whatever process is there
pub becomes-then : (s t u : State) (pid : ℕ) (p q : Process) (g : Process → Process) → process_at s pid ≡ Some p
    → q.pid ≡ p.pid → t ≡ with_process pid q s → Becomes t pid g u → u ≡ with_process pid (g q) s
becomes-then s t u pid p q g there keeps is next = becomes-next s t u pid p q (g q) there keeps is (next q)

pub put-same : (n : ℕ) (o : Object) (objects : List Object) → object_at objects n ≡ Some o
    → put_at n (Some o) objects ≡ objects
put-same n o [] found = absurd cc
put-same n o (e ∷ objects) found = at (object_number e == n) found (put-same n o objects)
  where
    one : Some e ≡ Some o → o ∷ objects ≡ e ∷ objects
    one is = cc

    at : (b : Bool) → cond b (Some e) (object_at objects n) ≡ Some o
        → (object_at objects n ≡ Some o → put_at n (Some o) objects ≡ objects)
        → cond b (o ∷ objects) (e ∷ put_at n (Some o) objects) ≡ e ∷ objects
    at true is rest = one is
    at false is rest = ap (λ os. e ∷ os) (rest is)

-- a process that becomes what it is
pub process-same : (s : State) (pid : ℕ) (p : Process) → process_at s pid ≡ Some p → with_process pid p s ≡ s
process-same s pid p there =
    ap (λ (os : List Object). record s { objects = os })
    (put-same pid (object.Process p) s.objects (process-found (object_at s.objects pid) p there))

pub stays : (s : State) (pid : ℕ) (p q : Process) → process_at s pid ≡ Some p → q ≡ p → s ≡ with_process pid q s
stays s pid p q there is = sym (ap (λ (q : Process). with_process pid q s) is ∙ process-same s pid p there)

-- what follows where an answer is Ok
pub on_ok : {T E : Type 0} (r : Result T E) {A B : Type 0} → (A → B) → OnOk r A → OnOk r B
on_ok (Ok x) goes there = goes there
on_ok (Err e) goes there = tt

-- ---- plain fields

-- what is seen of the process that is there
pub seen-is : (o : Option Process) (p : Process) (x : SeenProcess) → Some x ≡ option_map seen_process o → o ≡ Some p
    → x ≡ seen_process p
seen-is (Some q) p x seen there =
    let same : q ≡ p = cc in
    let is : x ≡ seen_process q = cc in
    is ∙ ap seen_process same
seen-is None p x seen there = absurd cc

-- a process becomes another one by new fields, which are what is seen of it with a change
pub fields-become : (s t : State) (pid : ℕ) (p q : Process) (change : SeenProcess → SeenProcess) (seen x : SeenProcess)
    → process_at s pid ≡ Some p → Some seen ≡ option_map seen_process (process_at s pid) → x ≡ change seen
    → (change (seen_process p)).pid ≡ p.pid → with_fields (change (seen_process p)) p ≡ q
    → Becomes s x.pid (with_fields x) t → t ≡ with_process pid q s
fields-become s t pid p q change seen x there looked changes same is becomes =
    let fields : x ≡ change (seen_process p) = changes ∙ ap change (seen-is (process_at s pid) p seen looked there) in
    let number : x.pid ≡ pid = ap (λ (x : SeenProcess). x.pid) fields ∙ same ∙ (process_at-there s pid p there).1 in
    becomes p (ap (process_at s) number ∙ there)
    ∙ ap (λ (n : ℕ). with_process n (with_fields x p) s) number
    ∙ ap (λ (x : SeenProcess). with_process pid (with_fields x p) s) fields
    ∙ ap (λ (q : Process). with_process pid q s) is

-- a process becomes another one by plain fields that are those of the other one
pub fields-end : (s t : State) (pid : ℕ) (r q : Process) (x : SeenProcess) → process_at s pid ≡ Some r
    → x ≡ seen_process q → q.pid ≡ r.pid → with_fields (seen_process q) r ≡ q
    → Becomes s x.pid (with_fields x) t → t ≡ with_process pid q s
fields-end s t pid r q x there fields keeps is becomes =
    let number : x.pid ≡ pid =
    ap (λ (x : SeenProcess). x.pid) fields ∙ keeps ∙ (process_at-there s pid r there).1 in
    becomes r (ap (process_at s) number ∙ there)
    ∙ ap (λ (n : ℕ). with_process n (with_fields x r) s) number
    ∙ ap (λ (x : SeenProcess). with_process pid (with_fields x r) s) fields
    ∙ ap (λ (q : Process). with_process pid q s) is

-- ---- what there is

pub not-some : {X : Type 0} (o : Option X) → o ≡ None → IsSome o → ⊥
not-some (Some x) none some = cc
not-some None none some = cc
