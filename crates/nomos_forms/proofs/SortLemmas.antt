-- Lists that are sorted, one item after the other.
use Rattle.std.proofs.Common.{◌≡◌, ◌≢◌, ◌∙◌, ◌+◌, ◌-◌, ◌<◌, ℕ, zero, suc, List, [], ◌∷◌, ◌++◌, Option, Some, None, Bool, true, false, Ordering, Less, Equal, Greater, length, get_or, map, Contains, refl, ap, sym, subst, ⊎_elim, arith}
use Rattle.std.specs.Cmp.{IsTotalOrder}
use Rattle.std.specs.List.{AllByRecursion}
use Rattle.std.specs.List.Sorted.{IsSorted, IsSortedBy, IsStrictlySortedBy}
use Rattle.std.specs.Ordering.{is_lt, ordering_reverse}
use Rattle.std.proofs.lemmas.Bool.{false≢true}
use Rattle.std.proofs.lemmas.List.{length-append, length-map, get_or-map, get_or_append_left, get_or_at}
use Rattle.std.proofs.lemmas.List.Elements.{All-weaker, All-contains_itself, Contains-append_right, recursion_from_All}
use Rattle.std.proofs.lemmas.Option.{same_Some}
use Rattle.nomos_forms.specs.mirror.Joining.{EndsIn, IsJoined}

-- the last one of a list
abbrev pub last_of : {X : Type 0} → List X → Option X
last_of [] = None
last_of (x ∷ []) = Some x
last_of (x ∷ y ∷ ys) = last_of (y ∷ ys)

pub last-push : {X : Type 0} (xs : List X) (x : X) → last_of (xs ++ x ∷ []) ≡ Some x
last-push [] x = refl
last-push (y ∷ []) x = refl
last-push (y ∷ z ∷ zs) x = last-push (z ∷ zs) x

last-at : {X : Type 0} (xs : List X) (k : ℕ) (d : X) → k + 1 ≡ length xs → last_of xs ≡ Some (get_or xs k d)
last-at [] k d last = absurd (omega (arith, last))
last-at (x ∷ []) zero d last = refl
last-at (x ∷ []) (suc k) d last = absurd (omega (arith, last))
last-at (x ∷ y ∷ ys) zero d last = absurd (omega (arith, last))
last-at (x ∷ y ∷ ys) (suc k) d last = last-at (y ∷ ys) k d (omega (arith, last))

-- a list ends in its last one, and in no other
pub ends-last : {X : Type 0} (xs : List X) (x : X) → EndsIn xs x → last_of xs ≡ Some x
ends-last xs x ends = last-at xs (length xs - 1) x (omega (arith, ends.0)) ∙ ap Some ends.1

abbrev is_there : {X : Type 0} → Option X → Bool
is_there None = false
is_there (Some x) = true

pub last-ends : {X : Type 0} (xs : List X) (x : X) → last_of xs ≡ Some x → EndsIn xs x
last-ends [] x is = absurd (false≢true (ap is_there is))
last-ends (y ∷ ys) x is = (
  omega arith,
  same_Some _ _ (sym (last-at (y ∷ ys) (length (y ∷ ys) - 1) x (omega arith))
      ∙ is),
)

-- ---- properties of each item
all-push : {X : Type 0} (P : X → Type 0) (xs ys : List X) → AllByRecursion P xs → AllByRecursion P ys
    → AllByRecursion P (xs ++ ys)
all-push P [] ys h i = i
all-push P (x ∷ xs) ys h i = (h.0, all-push P xs ys h.1 i)

all-middle : {X : Type 0} (P : X → Type 0) (xs : List X) (y : X) (ys : List X) → AllByRecursion P (xs ++ y ∷ ys) → P y
all-middle P [] y ys h = h.0
all-middle P (x ∷ xs) y ys h = all-middle P xs y ys h.1

-- ---- strictly sorted lists
pub strict-push : {X : Type 0} (R : X → X → Ordering) → IsTotalOrder R → (xs : List X) (y : X) → IsStrictlySortedBy R xs
    → ((x : X) → last_of xs ≡ Some x → R x y ≡ Less) → IsStrictlySortedBy R (xs ++ y ∷ [])
unfolding IsStrictlySortedBy
strict-push R o [] y s h = (tt, tt)
strict-push R o (x ∷ []) y s h = ((h x refl, tt), (tt, tt))
strict-push R o (x ∷ z ∷ zs) y s h =
    let rest = strict-push R o (z ∷ zs) y s.1 h in (
      all-push (λ w. R x w ≡ Less) (z ∷ zs) (y ∷ []) s.0
          (o.trans x z y s.0.0 (all-middle (λ w. R z w ≡ Less) zs y [] rest.0), tt),
      rest,
    )

pub strict-append : {X : Type 0} (R : X → X → Ordering) (xs ys : List X) → IsStrictlySortedBy R xs
    → IsStrictlySortedBy R ys
    → ((x y : X) → Contains xs x → Contains ys y → R x y ≡ Less) → IsStrictlySortedBy R (xs ++ ys)
unfolding IsStrictlySortedBy
strict-append R [] ys s t h = t
strict-append R (x ∷ xs) ys s t h = (
  all-push (λ y. R x y ≡ Less) xs ys s.0 (recursion_from_All (λ y. R x y ≡ Less) ys
      (All-weaker (Contains ys) (λ y. R x y ≡ Less)
      (λ y i. h x y (0, omega arith, refl) i) ys (All-contains_itself ys))),
  strict-append R xs ys s.1 t (λ a b i j. h a b (Contains-append_right (x ∷ []) xs a i) j),
)

-- the items in front of one are less
pub strict-front : {X : Type 0} (R : X → X → Ordering) (front : List X) (y : X) (rest : List X)
    → IsStrictlySortedBy R (front ++ y ∷ rest) → AllByRecursion (λ x. R x y ≡ Less) front
unfolding IsStrictlySortedBy
strict-front R [] y rest s = tt
strict-front R (x ∷ xs) y rest s = (all-middle (λ z. R x z ≡ Less) xs y rest s.0, strict-front R xs y rest s.1)

-- ---- a sorted list that is joined item by item
reverse-of : (r : Ordering) → is_lt (ordering_reverse r) ≡ false → r ≢ Equal → r ≡ Less
reverse-of Less h i = refl
reverse-of Equal h i = absurd (i refl)
reverse-of Greater h i = absurd (false≢true (sym h))

-- one item more
pub join-step : {X : Type 0} (R : X → X → Ordering) → IsTotalOrder R → ((x y : X) → R x y ≡ Equal → x ≡ y)
    → (xs ys front rest : List X) (y : X) → IsSorted R (front ++ y ∷ rest) → last_of xs ≡ last_of front
    → IsStrictlySortedBy R xs → IsJoined xs y ys → IsStrictlySortedBy R ys × (last_of ys ≡ last_of (front ++ y ∷ []))
join-step {X = X} R o exact xs ys front rest y sorted same strict joined =
    ⊎_elim
    (λ old. (
      subst (IsStrictlySortedBy R) (sym old.0) strict,
      ap last_of old.0 ∙ ends-last xs y old.1 ∙ sym (last-push front y),
    ))
    (λ new. (
      subst (IsStrictlySortedBy R) (sym new.0) (strict-push R o xs y strict (less new.1)),
      ap last_of new.0 ∙ last-push xs y ∙ sym (last-push front y),
    ))
    joined
  where
    below : (x : X) → EndsIn front x → is_lt (R y x) ≡ false
    below x ends =
        let k = length front - 1 in
        let place : length front ≡ k + 1 = omega (arith, ends.0) in
        let inside : k + 1 < length (front ++ y ∷ rest) = omega (arith, length-append front (y ∷ rest), place) in
        let left = get_or_append_left front (y ∷ rest) x k (omega (arith, ends.0)) ∙ ends.1 in
        let right = get_or_at front y rest x (k + 1) place in
        (λ p. is_lt (R (sym right p) (sym left p))) ∙ sorted k x (omega arith) inside

    less : ¬ EndsIn xs y → (x : X) → last_of xs ≡ Some x → R x y ≡ Less
    less none x last = reverse-of (R x y)
        (ap is_lt (sym (o.antisymm y x)) ∙ below x (last-ends front x (sym same ∙ last)))
        (λ e. none (ends-same (exact x y e) last))
      where
        ends-same : {x : X} → x ≡ y → last_of xs ≡ Some x → EndsIn xs y
        ends-same e last = last-ends xs y (last ∙ ap Some e)

pub strict-none : {X : Type 0} (R : X → X → Ordering) → IsStrictlySortedBy R []
unfolding IsStrictlySortedBy
strict-none R = tt

-- ---- by keys
pub sorted-keys : {X Y : Type 0} (R : Y → Y → Ordering) (key : X → Y) (xs : List X)
    → IsSortedBy (λ x y. is_lt (R (key x) (key y))) xs → IsSorted R (map key xs)
sorted-keys R key [] s = λ k d low below. absurd (omega (arith, below))
sorted-keys R key (x ∷ xs) s = λ k d low below.
    let long = length-map (x ∷ xs) key in
    let first = get_or-map key (x ∷ xs) k x d (omega (arith, below, long)) in
    let second = get_or-map key (x ∷ xs) (k + 1) x d (omega (arith, below, long)) in
    (λ p. is_lt (R (second p) (first p))) ∙ s k x low (omega (arith, below, long))
