-- What a change does to the objects as a whole.
use Rattle.std.proofs.Common.{◌≡◌, ◌≢◌, ℕ, ◌+◌, List, [], ◌∷◌, ◌++◌, All, Contains, Option, Some, sum_by, refl, sym, subst, arith}
use Rattle.std.proofs.lemmas.List.Elements.{All-nil, All-cons, All-head, All-tail, All-append, All-contains, All-weaker, Contains-append_left, Contains-append_right}
use Rattle.std.proofs.lemmas.List.Sums.{sum_by-cons, sum_by-append}
use Rattle.std.specs.Option.{option_to_list}
use Rattle.nomos_machine.specs.Change.{Change, put_at, put_all, made}
use Rattle.nomos_machine.specs.Objects.{object_number, object_at}
use Rattle.nomos_machine.specs.State.{State}
use Rattle.nomos_machine.specs.declared.object.Object.{Object}
use Rattle.nomos_machine.proofs.PutLaws.{InOrder, HasNumber, put-weight, put-all, put-kept, put-order, object_at-found}

-- The places name objects that are there, one after another: those that stood there are the last list. What comes there
-- has the same number.
pub data Replaces : List (ℕ × Option Object) → List Object → List Object → Type 0 where
  done : (objects : List Object) → Replaces [] objects []
  further : (o : Object) (new : Option Object) (places : List (ℕ × Option Object)) (objects olds : List Object)
      → object_at objects (object_number o) ≡ Some o → HasNumber (object_number o) new
      → Replaces places (put_at (object_number o) new objects) olds
      → Replaces ((object_number o, new) ∷ places) objects (o ∷ olds)

-- what comes at the places
abbrev pub news : List (ℕ × Option Object) → List Object
news [] = []
news (e ∷ places) = option_to_list e.1 ++ news places

-- what stood at the places weighs no more, and what comes there does
pub replaced-weight : (f : Object → ℕ) (places : List (ℕ × Option Object)) (objects olds : List Object)
    → Replaces places objects olds
    → sum_by f (put_all places objects) + sum_by f olds ≡ sum_by f objects + sum_by f (news places)
replaced-weight f _ objects _ (done _) = omega arith
replaced-weight f _ objects _ (further o new places _ olds there numbered rest) =
    let one = put-weight f new o objects there in
    let others = replaced-weight f places (put_at (object_number o) new objects) olds rest in
    omega (arith, sum_by-cons f o olds, sum_by-append f (option_to_list new) (news places))

-- the same of a whole change, of which an object may come besides
pub made-weight : (f : Object → ℕ) (s : State) (c : Change) (olds : List Object) → Replaces c.places s.objects olds
    → sum_by f (made s c).objects + sum_by f olds
    ≡ sum_by f s.objects + sum_by f (news c.places) + sum_by f (option_to_list c.comes)
made-weight f s c olds replaces =
    let placed = replaced-weight f c.places s.objects olds replaces in
    omega (arith, sum_by-append f (put_all c.places s.objects) (option_to_list c.comes))

-- what holds of all objects, and of what comes, holds of all that there are
pub replaced-all : (P : Object → Type 0) (places : List (ℕ × Option Object)) (objects : List Object) → All P objects
    → All P (news places) → All P (put_all places objects)
replaced-all P [] objects all here = all
replaced-all P (e ∷ places) objects all here =
    let first : All P (option_to_list e.1) = front P (option_to_list e.1) (news places) here in
    let others : All P (news places) = back P (option_to_list e.1) (news places) here in
    replaced-all P places (put_at e.0 e.1 objects) (put-all P e.0 e.1 objects all first) others
  where
    front : (P : Object → Type 0) (xs ys : List Object) → All P (xs ++ ys) → All P xs
    front P [] ys all = All-nil P
    front P (x ∷ xs) ys all =
        All-cons P x xs (All-head P x (xs ++ ys) all) (front P xs ys (All-tail P x (xs ++ ys) all))

    back : (P : Object → Type 0) (xs ys : List Object) → All P (xs ++ ys) → All P ys
    back P [] ys all = all
    back P (x ∷ xs) ys all = back P xs ys (All-tail P x (xs ++ ys) all)

pub made-all : (P : Object → Type 0) (s : State) (c : Change) → All P s.objects → All P (news c.places)
    → All P (option_to_list c.comes) → All P (made s c).objects
made-all P s c all here coming =
    All-append P (put_all c.places s.objects) (option_to_list c.comes) (replaced-all P c.places s.objects all here)
    coming

-- an object stays, unless its number is one of the places
pub replaced-kept : (places : List (ℕ × Option Object)) (objects : List Object) (o : Object) → Contains objects o
    → All (λ e. e.0 ≢ object_number o) places → Contains (put_all places objects) o
replaced-kept [] objects o there other = there
replaced-kept (e ∷ places) objects o there other =
    let first : e.0 ≢ object_number o = All-head (λ d. d.0 ≢ object_number o) e places other in
    replaced-kept places (put_at e.0 e.1 objects) o
    (put-kept e.0 e.1 o objects (λ same. first (sym same)) there) (All-tail (λ d. d.0 ≢ object_number o) e places other)

pub made-kept : (s : State) (c : Change) (o : Object) → Contains s.objects o → All (λ e. e.0 ≢ object_number o) c.places
    → Contains (made s c).objects o
made-kept s c o there other =
    Contains-append_left (put_all c.places s.objects) (option_to_list c.comes) o
    (replaced-kept c.places s.objects o there other)

-- the object that comes is there
pub made-comes : (s : State) (c : Change) (o : Object) → c.comes ≡ Some o → Contains (made s c).objects o
made-comes s c o comes =
    Contains-append_right (put_all c.places s.objects) (option_to_list c.comes) o
    (subst (λ (new : Option Object). Contains (option_to_list new) o) (sym comes) (0, omega arith, refl))

-- objects stand in order afterwards as before
pub replaced-order : (places : List (ℕ × Option Object)) (objects olds : List Object) → Replaces places objects olds
    → InOrder objects → InOrder (put_all places objects)
replaced-order _ objects _ (done _) order = order
replaced-order _ objects _ (further o new places _ olds there numbered rest) order =
    replaced-order places (put_at (object_number o) new objects) olds rest
    (put-order (object_number o) new objects numbered order)

-- and their numbers are in the same bounds
pub replaced-numbers : (P : ℕ → Type 0) (places : List (ℕ × Option Object)) (objects olds : List Object)
    → Replaces places objects olds → All (λ o. P (object_number o)) objects
    → All (λ o. P (object_number o)) (put_all places objects)
replaced-numbers P _ objects _ (done _) all = all
replaced-numbers P _ objects _ (further o new places _ olds there numbered rest) all =
    let here : P (object_number o) = All-contains (λ e. P (object_number e)) objects o all
    (object_at-found (object_number o) o objects there).1 in
    let coming : All (λ e. P (object_number e)) (option_to_list new) =
    All-weaker (λ e. object_number e ≡ object_number o) (λ e. P (object_number e)) (λ e same. subst P (sym same) here)
    (option_to_list new)
    numbered
    in
    replaced-numbers P places (put_at (object_number o) new objects) olds rest
    (put-all (λ e. P (object_number e)) (object_number o) new objects all coming)
