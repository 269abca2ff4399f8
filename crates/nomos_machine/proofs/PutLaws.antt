-- What stands at a number afterwards: sums over the objects, which objects there are, and their order.
use Rattle.std.proofs.Common.{◌≡◌, ◌≢◌, ◌∙◌, ◌<◌, inl, inr, ℕ, ◌+◌, ◌==◌, Bool, true, false, cond, List, [], ◌∷◌, ◌++◌, map, All, Contains, Option, Some, None, Less, sum_by, refl, sym, ap, subst, arith, eq-eqb, ne_eqb, eqb-true}
use Rattle.std.proofs.lemmas.Bool.{eqb-false}
use Rattle.std.proofs.lemmas.Cmp.{ranked}
use Rattle.std.proofs.lemmas.List.Elements.{All-nil, All-cons, All-head, All-tail, All-append, All-contains, Contains-append_cases, Contains-append_left, Contains-append_right}
use Rattle.std.proofs.lemmas.List.Sums.{sum_by-cons, sum_by-append}
use Rattle.std.proofs.lemmas.Map.Keys.{sorted_head, sorted_tail}
use Rattle.std.specs.Cmp.{nat_cmp_is}
use Rattle.std.specs.List.{AllByRecursion}
use Rattle.std.specs.List.Sorted.{IsStrictlySortedBy}
use Rattle.std.specs.Ordering.{nat_cmp}
use Rattle.std.specs.Option.{option_to_list}
use Rattle.nomos_machine.specs.Change.{put_at}
use Rattle.nomos_machine.specs.Objects.{object_number, object_at}
use Rattle.nomos_machine.specs.declared.object.Object.{Object}

-- the objects stand in order of number, each number once
abbrev pub InOrder : List Object → Type 0
InOrder objects = IsStrictlySortedBy nat_cmp (map object_number objects)

-- what comes has this number
abbrev pub HasNumber : ℕ → Option Object → Type 0
HasNumber n new = All (λ o. object_number o ≡ n) (option_to_list new)

-- ---- sums: what the number has weighs no more, what comes there does

placed-weight : (f : Object → ℕ) (new : Option Object) (e o : Object) (objects after : List Object) (t : Bool)
    → cond t (Some e) (object_at objects (object_number o)) ≡ Some o
    → (object_at objects (object_number o) ≡ Some o → sum_by f after + f o ≡ sum_by f objects + sum_by f
    (option_to_list new))
    → sum_by f (cond t (option_to_list new ++ objects) (e ∷ after)) + f o ≡ sum_by f (e ∷ objects) + sum_by f
    (option_to_list new)
placed-weight f new e o objects after true found rest =
    let same : e ≡ o = cc in
    let weighs : f e ≡ f o = ap f same in
    omega (arith, sum_by-append f (option_to_list new) objects, sum_by-cons f e objects, weighs)
placed-weight f new e o objects after false found rest =
    omega (arith, sum_by-cons f e objects, sum_by-cons f e after, rest found)

pub put-weight : (f : Object → ℕ) (new : Option Object) (o : Object) (objects : List Object)
    → object_at objects (object_number o) ≡ Some o
    → sum_by f (put_at (object_number o) new objects) + f o ≡ sum_by f objects + sum_by f (option_to_list new)
put-weight f new o [] found = absurd cc
put-weight f new o (e ∷ objects) found =
    placed-weight f new e o objects (put_at (object_number o) new objects) (object_number e == object_number o) found
    (put-weight f new o objects)

-- ---- what is found at a number

-- an object is the only one of a list of one
pub contains-one : {X : Type 0} (x y : X) → Contains (x ∷ []) y → x ≡ y
contains-one {X} x y there =
    let Is : X → Type 0 = λ z. x ≡ z in
    let here : Is x = refl in
    All-contains Is (x ∷ []) y (All-cons Is x [] here (All-nil Is)) there

found-number : (n : ℕ) (e o : Object) (objects : List Object) (t : Bool) → (object_number e == n) ≡ t
    → cond t (Some e) (object_at objects n) ≡ Some o
    → (object_at objects n ≡ Some o → (object_number o ≡ n) × Contains objects o)
    → (object_number o ≡ n) × Contains (e ∷ objects) o
found-number n e o objects true here found rest =
    let same : e ≡ o = cc in (
      ap object_number (sym same) ∙ eqb-true (object_number e) n here,
      Contains-append_left (e ∷ []) objects o (0, omega arith, same),
    )
found-number n e o objects false here found rest =
    let further = rest found in
    (further.0, Contains-append_right (e ∷ []) objects o further.1)

-- what is found at a number has that number, and is one of the objects
pub object_at-found : (n : ℕ) (o : Object) (objects : List Object) → object_at objects n ≡ Some o
    → (object_number o ≡ n) × Contains objects o
object_at-found n o [] found = absurd cc
object_at-found n o (e ∷ objects) found =
    found-number n e o objects (object_number e == n) refl found (object_at-found n o objects)

-- the first object has this number, or it stands further on
pub object_at-first : (n : ℕ) (e : Object) (objects : List Object) → object_number e ≡ n
    → object_at (e ∷ objects) n ≡ Some e
object_at-first n e objects same = ap (λ t. cond t (Some e) (object_at objects n)) (eq-eqb (object_number e) n same)

pub object_at-further : (n : ℕ) (e : Object) (objects : List Object) → object_number e ≢ n
    → object_at (e ∷ objects) n ≡ object_at objects n
object_at-further n e objects other =
    ap (λ t. cond t (Some e) (object_at objects n)) (ne_eqb (object_number e) n other)

-- all numbers of these objects are above this one
abbrev AllOver : ℕ → List Object → Type 0
AllOver n objects = AllByRecursion (λ k. nat_cmp n k ≡ Less) (map object_number objects)

over-each : (n : ℕ) (o : Object) (objects : List Object) → AllOver n objects → Contains objects o → n < object_number o
over-each n o [] over there = absurd (omega (arith, there.1))
over-each n o (e ∷ objects) over there =
    elim (Contains-append_cases (e ∷ []) objects o there) [
      | inl first ↦
          let same : object_number e ≡ object_number o = ap object_number (contains-one e o first) in
          let lower : n < object_number e = ranked n (object_number e) Less (sym over.0) in
          omega arith
      | inr further ↦ over-each n o objects over.1 further
    ]

-- an object that stands in order is found at its number
pub object_at-own : (o : Object) (objects : List Object) → InOrder objects → Contains objects o
    → object_at objects (object_number o) ≡ Some o
object_at-own o [] order there = absurd (omega (arith, there.1))
object_at-own o (e ∷ objects) order there =
    elim (Contains-append_cases (e ∷ []) objects o there) [
      | inl first ↦
          let same : e ≡ o = contains-one e o first in
          object_at-first (object_number o) e objects (ap object_number same) ∙ ap Some same
      | inr further ↦
          let lower : object_number e < object_number o =
          over-each (object_number e) o objects (sorted_head nat_cmp (object_number e) (map object_number objects)
          order) further
          in
          let other : object_number e ≢ object_number o = omega arith in
          object_at-further (object_number o) e objects other
          ∙ object_at-own o objects (sorted_tail nat_cmp (object_number e) (map object_number objects) order) further
    ]

-- ---- which objects there are

placed-all : (P : Object → Type 0) (new : Option Object) (e : Object) (objects after : List Object) (t : Bool)
    → All P (e ∷ objects) → All P (option_to_list new) → All P after
    → All P (cond t (option_to_list new ++ objects) (e ∷ after))
placed-all P new e objects after true all here rest =
    All-append P (option_to_list new) objects here (All-tail P e objects all)
placed-all P new e objects after false all here rest = All-cons P e after (All-head P e objects all) rest

-- what holds of all objects, and of what comes, holds of all that there are
pub put-all : (P : Object → Type 0) (n : ℕ) (new : Option Object) (objects : List Object) → All P objects
    → All P (option_to_list new) → All P (put_at n new objects)
put-all P n new [] all here = all
put-all P n new (e ∷ objects) all here =
    placed-all P new e objects (put_at n new objects) (object_number e == n) all here
    (put-all P n new objects (All-tail P e objects all) here)

placed-kept : (n : ℕ) (new : Option Object) (e o : Object) (objects after : List Object) (t : Bool)
    → (object_number e == n) ≡ t → object_number o ≢ n → Contains (e ∷ objects) o
    → (Contains objects o → Contains after o)
    → Contains (cond t (option_to_list new ++ objects) (e ∷ after)) o
placed-kept n new e o objects after true here other there rest =
    elim (Contains-append_cases (e ∷ []) objects o there) [
      | inl first ↦ absurd (other (ap object_number (sym (contains-one e o first)) ∙ eqb-true (object_number e) n here))
      | inr further ↦ Contains-append_right (option_to_list new) objects o further
    ]
placed-kept n new e o objects after false here other there rest =
    elim (Contains-append_cases (e ∷ []) objects o there) [
      | inl first ↦ Contains-append_left (e ∷ []) after o first
      | inr further ↦ Contains-append_right (e ∷ []) after o (rest further)
    ]

-- objects of other numbers stay
pub put-kept : (n : ℕ) (new : Option Object) (o : Object) (objects : List Object) → object_number o ≢ n
    → Contains objects o → Contains (put_at n new objects) o
put-kept n new o [] other there = there
put-kept n new o (e ∷ objects) other there =
    placed-kept n new e o objects (put_at n new objects) (object_number e == n) refl other there
    (put-kept n new o objects other)

placed-new : (n : ℕ) (new : Option Object) (e o q : Object) (objects after : List Object) (t : Bool)
    → cond t (Some e) (object_at objects n) ≡ Some o → Contains (option_to_list new) q
    → (object_at objects n ≡ Some o → Contains after q) → Contains (cond t (option_to_list new ++ objects) (e ∷ after))
    q
placed-new n new e o q objects after true found there rest = Contains-append_left (option_to_list new) objects q there
placed-new n new e o q objects after false found there rest = Contains-append_right (e ∷ []) after q (rest found)

-- what comes to a number at which an object stood is there
pub put-new : (n : ℕ) (new : Option Object) (o q : Object) (objects : List Object) → object_at objects n ≡ Some o
    → Contains (option_to_list new) q → Contains (put_at n new objects) q
put-new n new o q [] found there = absurd cc
put-new n new o q (e ∷ objects) found there =
    placed-new n new e o q objects (put_at n new objects) (object_number e == n) found there
    (λ further. put-new n new o q objects further there)

placed-at_other : (n m : ℕ) (new : Option Object) (e : Object) (objects after : List Object) (t : Bool)
    → (object_number e == n) ≡ t → n ≢ m → HasNumber n new → object_at after m ≡ object_at objects m
    → object_at (cond t (option_to_list new ++ objects) (e ∷ after)) m ≡ object_at (e ∷ objects) m
placed-at_other n m None e objects after true here other numbered rest =
    let is : object_number e ≡ n = eqb-true (object_number e) n here in
    sym (object_at-further m e objects (omega arith))
placed-at_other n m (Some q) e objects after true here other numbered rest =
    let is : object_number e ≡ n = eqb-true (object_number e) n here in
    let same : object_number q ≡ n = All-head (λ o. object_number o ≡ n) q [] numbered in
    object_at-further m q objects (omega arith) ∙ sym (object_at-further m e objects (omega arith))
placed-at_other n m new e objects after false here other numbered rest =
    ap (λ r. cond (object_number e == m) (Some e) r) rest

-- at other numbers the same is found
pub object_at-other : (n m : ℕ) (new : Option Object) (objects : List Object) → n ≢ m → HasNumber n new
    → object_at (put_at n new objects) m ≡ object_at objects m
object_at-other n m new [] other numbered = refl
object_at-other n m new (e ∷ objects) other numbered =
    placed-at_other n m new e objects (put_at n new objects) (object_number e == n) refl other numbered
    (object_at-other n m new objects other numbered)

placed-at_own : (n : ℕ) (q e o : Object) (objects after : List Object) (t : Bool) → (object_number e == n) ≡ t
    → cond t (Some e) (object_at objects n) ≡ Some o → object_number q ≡ n
    → (object_at objects n ≡ Some o → object_at after n ≡ Some q)
    → object_at (cond t (q ∷ objects) (e ∷ after)) n ≡ Some q
placed-at_own n q e o objects after true here found numbered rest = object_at-first n q objects numbered
placed-at_own n q e o objects after false here found numbered rest =
    object_at-further n e after (eqb-false (object_number e) n here) ∙ rest found

-- what came to a number is found there
pub object_at-put : (n : ℕ) (q o : Object) (objects : List Object) → object_at objects n ≡ Some o → object_number q ≡ n
    → object_at (put_at n (Some q) objects) n ≡ Some q
object_at-put n q o [] found numbered = absurd cc
object_at-put n q o (e ∷ objects) found numbered =
    placed-at_own n q e o objects (put_at n (Some q) objects) (object_number e == n) refl found numbered
    (λ further. object_at-put n q o objects further numbered)

-- ---- the order of numbers

order-cons : (e : Object) (objects : List Object) → AllOver (object_number e) objects → InOrder objects
    → InOrder (e ∷ objects)
unfolding IsStrictlySortedBy
order-cons e objects over order = (over, order)

placed-over : (m n : ℕ) (new : Option Object) (e : Object) (objects after : List Object) (t : Bool)
    → (object_number e == n) ≡ t → HasNumber n new → AllOver m (e ∷ objects) → AllOver m after
    → AllOver m (cond t (option_to_list new ++ objects) (e ∷ after))
placed-over m n None e objects after true here numbered over rest = over.1
placed-over m n (Some q) e objects after true here numbered over rest =
    let same : object_number e ≡ object_number q =
    eqb-true (object_number e) n here ∙ sym (All-head (λ o. object_number o ≡ n) q [] numbered)
    in
    (subst (λ (k : ℕ). nat_cmp m k ≡ Less) same over.0, over.1)
placed-over m n new e objects after false here numbered over rest = (over.0, rest)

put-over : (m n : ℕ) (new : Option Object) (objects : List Object) → HasNumber n new → AllOver m objects
    → AllOver m (put_at n new objects)
put-over m n new [] numbered over = over
put-over m n new (e ∷ objects) numbered over =
    placed-over m n new e objects (put_at n new objects) (object_number e == n) refl numbered over
    (put-over m n new objects numbered over.1)

placed-order : (n : ℕ) (new : Option Object) (e : Object) (objects : List Object) (t : Bool)
    → (object_number e == n) ≡ t
    → HasNumber n new → InOrder (e ∷ objects) → InOrder (put_at n new objects)
    → InOrder (cond t (option_to_list new ++ objects) (e ∷ put_at n new objects))
placed-order n None e objects true here numbered order rest =
    sorted_tail nat_cmp (object_number e) (map object_number objects) order
placed-order n (Some q) e objects true here numbered order rest =
    let same : object_number e ≡ object_number q =
    eqb-true (object_number e) n here ∙ sym (All-head (λ o. object_number o ≡ n) q [] numbered)
    in
    order-cons q objects
    (subst (λ (k : ℕ). AllOver k objects) same (sorted_head nat_cmp (object_number e) (map object_number objects)
    order))
    (sorted_tail nat_cmp (object_number e) (map object_number objects) order)
placed-order n new e objects false here numbered order rest =
    order-cons e (put_at n new objects)
    (put-over (object_number e) n new objects numbered
    (sorted_head nat_cmp (object_number e) (map object_number objects) order))
    rest

-- objects stand in order afterwards as before
pub put-order : (n : ℕ) (new : Option Object) (objects : List Object) → HasNumber n new → InOrder objects
    → InOrder (put_at n new objects)
put-order n new [] numbered order = order
put-order n new (e ∷ objects) numbered order =
    placed-order n new e objects (object_number e == n) refl numbered order
    (put-order n new objects numbered (sorted_tail nat_cmp (object_number e) (map object_number objects) order))

module _ {X : Type 0} (f : X → ℕ) where
  abbrev EachOver : ℕ → List X → Type 0
  EachOver m xs = AllByRecursion (λ k. nat_cmp m k ≡ Less) (map f xs)

  over-push : (m : ℕ) (x : X) (xs : List X) → EachOver m xs → m < f x → EachOver m (xs ++ x ∷ [])
  over-push m x [] over lower = (sym (nat_cmp_is m (f x) Less lower), tt)
  over-push m x (e ∷ xs) over lower = (over.0, over-push m x xs over.1 lower)

  ordered-cons : (e : X) (xs : List X) → EachOver (f e) xs → IsStrictlySortedBy nat_cmp (map f xs)
      → IsStrictlySortedBy nat_cmp (map f (e ∷ xs))
  unfolding IsStrictlySortedBy
  ordered-cons e xs over order = (over, order)

  -- what has a number above all others goes behind them
  pub push-order : (x : X) (xs : List X) → IsStrictlySortedBy nat_cmp (map f xs) → All (λ e. f e < f x) xs
      → IsStrictlySortedBy nat_cmp (map f (xs ++ x ∷ []))
  push-order x [] order below = ordered-cons x [] tt order
  push-order x (e ∷ xs) order below =
      ordered-cons e (xs ++ x ∷ [])
      (over-push (f e) x xs (sorted_head nat_cmp (f e) (map f xs) order) (All-head (λ d. f d < f x) e xs below))
      (push-order x xs (sorted_tail nat_cmp (f e) (map f xs) order) (All-tail (λ d. f d < f x) e xs below))
