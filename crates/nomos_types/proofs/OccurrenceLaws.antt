-- How often a number occurs, and where.
use Rattle.std.proofs.Common.{◌≡◌, ◌≤◌, ◌<◌, ◌⊎◌, inl, inr, ℕ, zero, suc, ◌+◌, ◌==◌, Bool, true, false, cond, List, [], ◌∷◌, ◌++◌, map, length, get_or, All, Contains, Some, slice_get, subst, ap, sym, refl, ◌∙◌, arith, eq-eqb, eqb-true}
use Rattle.std.proofs.lemmas.Bool.{cases_lt}
use Rattle.std.proofs.lemmas.List.{get_or-map, length-map}
use Rattle.std.proofs.lemmas.List.Elements.{All-nil, All-head, All-tail, All-append, Contains-append_left, Contains-append_right}
use Rattle.std.proofs.lemmas.List.Sums.{sum_by-cons, sum_by-append, get_or-le-sum_by}
use Rattle.std.proofs.lemmas.Option.{slice_get_within, get_or_from_slice_get}
use Rattle.std.specs.List.{flat_map}
use Rattle.nomos_ir.specs.Naming.{AllDiffer}
use Rattle.nomos_ir.specs.Order.{count_of}

-- whether a number is this one, as a number
abbrev pub one_at : ℕ → ℕ → ℕ
one_at n k = cond (k == n) 1 0

-- ---- elements

-- the first is an element, and so is each of the others
pub contains-head : {X : Type 0} (x y : X) (xs : List X) → x ≡ y → Contains (x ∷ xs) y
contains-head x y xs same = (zero, omega arith, same)

pub contains-tail : {X : Type 0} (x y : X) (xs : List X) → Contains xs y → Contains (x ∷ xs) y
contains-tail x y xs there = (suc there.0, omega arith, there.2)

-- an element is the first or one of the others, by its place
pub contains-at : {X : Type 0} (x y : X) (xs : List X) (k : ℕ) → k < length (x ∷ xs) → get_or (x ∷ xs) k y ≡ y
    → (x ≡ y) ⊎ Contains xs y
contains-at x y xs zero inside at = inl at
contains-at x y xs (suc k) inside at = inr (k, omega arith, at)

-- an element is the first or one of the others
pub contains-cases : {X : Type 0} (x y : X) (xs : List X) → Contains (x ∷ xs) y → (x ≡ y) ⊎ Contains xs y
contains-cases x y xs there = contains-at x y xs there.0 there.1 there.2

-- what an element is mapped to is an element of the mapped list
pub contains-map : {X Y : Type 0} (f : X → Y) (xs : List X) (x : X) (y : Y) → Contains xs x → f x ≡ y
    → Contains (map f xs) y
contains-map f xs x y there same =
    let inside : there.0 < length (map f xs) = rw length-map there.1 in
    (there.0, inside, get_or-map f xs there.0 x y there.1 ∙ ap f there.2 ∙ same)

-- an element of the mapped list comes from one of the list
pub contains-unmap : {X Y : Type 0} (f : X → Y) (xs : List X) (y : Y) → Contains (map f xs) y
    → (x : X) × Contains xs x × (f x ≡ y)
contains-unmap f [] y there = absurd (omega (arith, there.1))
contains-unmap f (x ∷ xs) y there =
    elim (contains-cases (f x) y (map f xs) there) [
      | inl same ↦ (x, contains-head x x xs refl, same)
      | inr rest ↦ let r = contains-unmap f xs y rest in (r.0, contains-tail x r.0 xs r.1, r.2)
    ]

-- an element that is found at a place is an element
pub contains-found : {X : Type 0} (xs : List X) (k : ℕ) (x : X) → slice_get xs k ≡ Some x → Contains xs x
contains-found xs k x found = (k, slice_get_within xs k x found, get_or_from_slice_get xs k x x found)

-- an element of the list of one item is an element of the lists of all
pub contains-part : {X Y : Type 0} (g : X → List Y) (xs : List X) (k : ℕ) (x : X) (y : Y) → slice_get xs k ≡ Some x
    → Contains (g x) y → Contains (flat_map g xs) y
contains-part g [] k x y found there = absurd cc
contains-part g (z ∷ xs) zero x y found there =
    let same : x ≡ z = cc in
    Contains-append_left (g z) (flat_map g xs) y (subst (λ w. Contains (g w) y) same there)
contains-part g (z ∷ xs) (suc k) x y found there =
    Contains-append_right (g z) (flat_map g xs) y (contains-part g xs k x y found there)

-- what holds of the elements of each item's list holds of those of all
pub all-flat : {X Y : Type 0} (P : Y → Type 0) (g : X → List Y) (xs : List X) → All (λ x. All P (g x)) xs
    → All P (flat_map g xs)
all-flat P g [] all = All-nil P
all-flat {X = X} P g (x ∷ xs) all =
    let Q : X → Type 0 = λ z. All P (g z) in
    All-append P (g x) (flat_map g xs) (All-head Q x xs all) (all-flat P g xs (All-tail Q x xs all))

-- ---- counts

-- the first counts where it is the number, and not where it is another one
pub count-here : (n x : ℕ) (xs : List ℕ) → x ≡ n → count_of n (x ∷ xs) ≡ 1 + count_of n xs
count-here n x xs same =
    sum_by-cons (one_at n) x xs ∙ ap (λ (t : Bool). cond t 1 0 + count_of n xs) (eq-eqb x n same)

pub count-elsewhere : (n x : ℕ) (xs : List ℕ) → (x == n) ≡ false → count_of n (x ∷ xs) ≡ count_of n xs
count-elsewhere n x xs other =
    sum_by-cons (one_at n) x xs ∙ ap (λ (t : Bool). cond t 1 0 + count_of n xs) other ∙ omega arith

count-further : (n x : ℕ) (xs : List ℕ) → count_of n xs ≤ count_of n (x ∷ xs)
count-further n x xs = omega (arith, sum_by-cons (one_at n) x xs)

-- a number occurs in two lists together as often as in each
pub count-append : (n : ℕ) (xs ys : List ℕ) → count_of n (xs ++ ys) ≡ count_of n xs + count_of n ys
count-append n xs ys = sum_by-append (one_at n) xs ys

-- an element occurs
pub counted : (n : ℕ) (xs : List ℕ) → Contains xs n → 1 ≤ count_of n xs
counted n xs there =
    let itself : one_at n n ≡ 1 = ap (λ (t : Bool). cond t 1 0) (eq-eqb n n refl) in
    let one : one_at n (get_or xs there.0 n) ≡ 1 = ap (one_at n) there.2 ∙ itself in
    omega (arith, get_or-le-sum_by (one_at n) xs there.0 n there.1)

-- the same, where the test of the first is known
contained-at : (n x : ℕ) (xs : List ℕ) (t : Bool) → (x == n) ≡ t → 1 ≤ count_of n (x ∷ xs)
    → (1 ≤ count_of n xs → Contains xs n) → Contains (x ∷ xs) n
contained-at n x xs true here occurs rest = contains-head x n xs (eqb-true x n here)
contained-at n x xs false here occurs rest =
    contains-tail x n xs (rest (omega (arith, count-elsewhere n x xs here)))

-- what occurs is an element
pub contained : (n : ℕ) (xs : List ℕ) → 1 ≤ count_of n xs → Contains xs n
contained n [] occurs = absurd (omega arith)
contained n (x ∷ xs) occurs = contained-at n x xs (x == n) refl occurs (contained n xs)

-- a number that stands first and further on occurs twice
twice : {X : Type 0} (f : X → ℕ) (n : ℕ) (x y : X) (xs : List X) → f x ≡ n → f y ≡ n → Contains xs y
    → count_of n (map f (x ∷ xs)) ≤ 1 → ⊥
twice f n x y xs here there among once =
    let further : 1 ≤ count_of n (map f xs) = counted n (map f xs) (contains-map f xs y n among there) in
    omega (arith, count-here n (f x) (map f xs) here)

-- where a number occurs once, one element only is mapped to it
pub one-place : {X : Type 0} (f : X → ℕ) (n : ℕ) (xs : List X) (p q : X) → f p ≡ n → f q ≡ n → count_of n (map f xs) ≤ 1
    → Contains xs p → Contains xs q → p ≡ q
one-place f n [] p q p_is q_is once p_there q_there = absurd (omega (arith, p_there.1))
one-place f n (x ∷ xs) p q p_is q_is once p_there q_there =
    elim (contains-cases x p xs p_there) [
      | inl p_first ↦ elim (contains-cases x q xs q_there) [
        | inl q_first ↦ sym p_first ∙ q_first
        | inr q_further ↦ absurd (twice f n x q xs (ap f p_first ∙ p_is) q_is q_further once)
      ]
      | inr p_further ↦ elim (contains-cases x q xs q_there) [
        | inl q_first ↦ absurd (twice f n x p xs (ap f q_first ∙ q_is) p_is p_further once)
        | inr q_further ↦
            let fewer : count_of n (map f xs) ≤ 1 = omega (arith, count-further n (f x) (map f xs)) in
            one-place f n xs p q p_is q_is fewer p_further q_further
      ]
    ]

once-at : (n x : ℕ) (xs : List ℕ) (t : Bool) → (x == n) ≡ t → AllDiffer (x ∷ xs) → count_of n xs ≤ 1
    → count_of n (x ∷ xs) ≤ 1
once-at n x xs true here differ rest =
    let first : x ≡ n = eqb-true x n here in
    elim (cases_lt 0 (count_of n xs)) [
      | inl again ↦
          let there = contained n xs again in
          absurd (differ 0 (suc there.0) n (omega arith) (omega (arith, there.1)) (first ∙ sym there.2))
      | inr never ↦ omega (arith, count-here n x xs first)
    ]
once-at n x xs false here differ rest = omega (arith, count-elsewhere n x xs here)

-- of numbers that differ each occurs at most once
pub differ-once : (n : ℕ) (xs : List ℕ) → AllDiffer xs → count_of n xs ≤ 1
differ-once n [] differ = omega arith
differ-once n (x ∷ xs) differ =
    let others : AllDiffer xs = λ i j d before inside. differ (suc i) (suc j) d (omega arith) (omega arith) in
    once-at n x xs (x == n) refl differ (differ-once n xs others)

-- ---- lists of lists

-- a number occurs in the list of one item at most as often as in those of all
pub count-part : {X : Type 0} (g : X → List ℕ) (n : ℕ) (xs : List X) (i : ℕ) (x : X) → slice_get xs i ≡ Some x
    → count_of n (g x) ≤ count_of n (flat_map g xs)
count-part g n [] i x found = absurd cc
count-part g n (y ∷ xs) zero x found =
    let same : y ≡ x = cc in
    let both = count-append n (g y) (flat_map g xs) in
    let first : count_of n (g y) ≤ count_of n (flat_map g (y ∷ xs)) = omega arith in
    subst (λ z. count_of n (g z) ≤ count_of n (flat_map g (y ∷ xs))) same first
count-part g n (y ∷ xs) (suc i) x found =
    omega (arith, count-append n (g y) (flat_map g xs), count-part g n xs i x found)

-- where a number occurs once, it stands in the list of one item only
pub one-part : {X : Type 0} (g : X → List ℕ) (n : ℕ) (xs : List X) (i j : ℕ) (x y : X) → count_of n (flat_map g xs) ≤ 1
    → slice_get xs i ≡ Some x → slice_get xs j ≡ Some y → 1 ≤ count_of n (g x) → 1 ≤ count_of n (g y) → i ≡ j
one-part g n [] i j x y once x_found y_found x_has y_has = absurd cc
one-part g n (z ∷ xs) zero zero x y once x_found y_found x_has y_has = refl
one-part g n (z ∷ xs) zero (suc j) x y once x_found y_found x_has y_has =
    let same : z ≡ x = cc in
    let first : 1 ≤ count_of n (g z) = subst (λ w. 1 ≤ count_of n (g w)) (sym same) x_has in
    absurd (omega (arith, count-append n (g z) (flat_map g xs), count-part g n xs j y y_found))
one-part g n (z ∷ xs) (suc i) zero x y once x_found y_found x_has y_has =
    let same : z ≡ y = cc in
    let first : 1 ≤ count_of n (g z) = subst (λ w. 1 ≤ count_of n (g w)) (sym same) y_has in
    absurd (omega (arith, count-append n (g z) (flat_map g xs), count-part g n xs i x x_found))
one-part g n (z ∷ xs) (suc i) (suc j) x y once x_found y_found x_has y_has =
    let fewer : count_of n (flat_map g xs) ≤ 1 = omega (arith, count-append n (g z) (flat_map g xs)) in
    ap suc (one-part g n xs i j x y fewer x_found y_found x_has y_has)

-- the item in whose list a number stands
abbrev pub PartWith : {X : Type 0} → (X → List ℕ) → ℕ → List X → Type 0
PartWith {X} g n xs = (i : ℕ) × (x : X) × (slice_get xs i ≡ Some x) × Contains (g x) n

-- an item of the others is an item
later-part : {X : Type 0} (g : X → List ℕ) (n : ℕ) (x : X) (xs : List X) → PartWith g n xs → PartWith g n (x ∷ xs)
later-part g n x xs there = (suc there.0, there.1, there.2, there.3)

-- what occurs in the lists of all items stands in the list of one
pub part-with : {X : Type 0} (g : X → List ℕ) (n : ℕ) (xs : List X) → 1 ≤ count_of n (flat_map g xs) → PartWith g n xs
part-with g n [] occurs = absurd (omega arith)
part-with g n (x ∷ xs) occurs =
    elim (cases_lt 0 (count_of n (g x))) [
      | inl first ↦ (zero, x, refl, contained n (g x) (omega arith))
      | inr further ↦
          let rest : 1 ≤ count_of n (flat_map g xs) = omega (arith, count-append n (g x) (flat_map g xs)) in
          later-part g n x xs (part-with g n xs rest)
    ]
