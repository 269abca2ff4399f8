-- Two lists of numbers, one of which ascends and the other does not fall, are the same where each number stands as
-- often in both.
use Rattle.std.proofs.Common.{◌≡◌, ◌≢◌, ◌≤◌, ◌<◌, ◌+◌, ◌↔◌, inl, inr, ℕ, suc, ◌==◌, Bool, true, false, cond, List, [], ◌∷◌, filter, flat_map, sum_by, All, Less, refl, ap, ap₂, subst, sym, ◌∙◌, arith, eq-eqb, ne_eqb}
use Rattle.std.proofs.lemmas.Bool.{cases_eq, cases_lt}
use Rattle.std.proofs.lemmas.Cmp.{ranked}
use Rattle.std.proofs.lemmas.List.Elements.{All-cons, All-head, All-nil, All-tail, All-weaker}
use Rattle.std.proofs.lemmas.List.Sorted.{sum_by-IsPermutation}
use Rattle.std.proofs.lemmas.List.Sums.{sum_by-cons}
use Rattle.std.proofs.lemmas.Map.Keys.{sorted_head, sorted_tail}
use Rattle.std.specs.List.{AllByRecursion}
use Rattle.std.specs.List.Sorted.{IsNonDecreasing, IsPermutation, IsStrictlySortedBy}
use Rattle.std.specs.Ordering.{nat_cmp}
use Rattle.nomos_ir.specs.Order.{count_of}
use Rattle.nomos_types.proofs.OccurrenceLaws.{count-append}

-- 1 where both numbers are the same, and 0 otherwise
abbrev one_at : ℕ → ℕ → ℕ
one_at n k = cond (k == n) 1 0

count-first : (n k : ℕ) (ks : List ℕ) → count_of n (k ∷ ks) ≡ one_at n k + count_of n ks
count-first n k ks = sum_by-cons (one_at n) k ks

pub count-own : (n : ℕ) (ks : List ℕ) → count_of n (n ∷ ks) ≡ 1 + count_of n ks
count-own n ks =
    let one : one_at n n ≡ 1 = ap (λ (t : Bool). cond t 1 0) (eq-eqb n n refl) in
    omega (arith, one, count-first n n ks)

pub count-other : (n k : ℕ) (ks : List ℕ) → k ≢ n → count_of n (k ∷ ks) ≡ count_of n ks
count-other n k ks other =
    let none : one_at n k ≡ 0 = ap (λ (t : Bool). cond t 1 0) (ne_eqb k n other) in
    omega (arith, none, count-first n k ks)

-- what is below all does not occur
pub count-below : (n : ℕ) (ks : List ℕ) → All (λ k. n < k) ks → count_of n ks ≡ 0
count-below n [] all = refl
count-below n (k ∷ ks) all =
    let first : n < k = All-head (λ k. n < k) k ks all in
    count-other n k ks (omega (arith, first)) ∙ count-below n ks (All-tail (λ k. n < k) k ks all)

-- ---- lists that rise

-- each number is followed by none that is lower
abbrev pub Rises : List ℕ → Type 0
Rises [] = Unit {0}
Rises (k ∷ ks) = All (λ n. k ≤ n) ks × Rises ks

rises-from : (ks : List ℕ) → IsNonDecreasing ks → Rises ks
rises-from [] up = tt
rises-from (k ∷ ks) up = (
  λ i d inside. up 0 (suc i) d (omega arith) (omega (arith, inside)),
  rises-from ks (λ i j d le inside. up (suc i) (suc j) d (omega (arith, le)) (omega (arith, inside))),
)

-- numbers that ascend are over the first
pub above-first : (k : ℕ) (ks : List ℕ) → AllByRecursion (λ n. nat_cmp k n ≡ Less) ks → All (λ n. k < n) ks
above-first k [] above = All-nil (λ n. k < n)
above-first k (n ∷ ks) above =
    All-cons (λ n. k < n) n ks (ranked k n Less (sym above.0)) (above-first k ks above.1)

-- ---- the law

pub same-counts : (found numbers : List ℕ) → Rises found → IsStrictlySortedBy nat_cmp numbers
    → ((n : ℕ) → count_of n found ≡ count_of n numbers) → found ≡ numbers
same-counts [] [] rises ascend same = refl
same-counts [] (k ∷ ks) rises ascend same =
    let at = same k in
    absurd (omega (arith, at, count-own k ks))
same-counts (n ∷ ns) [] rises ascend same =
    let at = same n in
    absurd (omega (arith, at, count-own n ns))
same-counts (n ∷ ns) (k ∷ ks) rises ascend same =
    let over : All (λ m. k < m) ks = above-first k ks (sorted_head nat_cmp k ks ascend) in
    let first : n ≡ k = elim (cases_lt n k) [
      | inl less ↦
          let at = same n in
          let none : count_of n (k ∷ ks) ≡ 0 =
          count-below n (k ∷ ks) (All-cons (λ m. n < m) k ks less
          (All-weaker (λ m. k < m) (λ m. n < m) (λ m more. omega (arith, less, more)) ks over)) in
          absurd (omega (arith, at, none, count-own n ns))
      | inr least ↦ elim (cases_lt k n) [
        | inl less ↦
            let at = same k in
            let none : count_of k (n ∷ ns) ≡ 0 =
            count-below k (n ∷ ns) (All-cons (λ m. k < m) n ns less
            (All-weaker (λ m. n ≤ m) (λ m. k < m) (λ m more. omega (arith, less, more)) ns rises.0)) in
            absurd (omega (arith, at, none, count-own k ks))
        | inr most ↦ omega (arith, least, most)
      ]
    ] in
    let others : (m : ℕ) → count_of m ns ≡ count_of m ks = λ m.
    let at = same m in
    let head : one_at m n ≡ one_at m k = ap (one_at m) first in
    omega (arith, at, head, count-first m n ns, count-first m k ks) in
    ap₂ ◌∷◌ first (same-counts ns ks rises.1 (sorted_tail nat_cmp k ks ascend) others)

-- a permutation has each number as often
pub permuted-counts : (found sorted : List ℕ) → IsPermutation found sorted → (n : ℕ)
    → count_of n sorted ≡ count_of n found
permuted-counts found sorted is n = sum_by-IsPermutation (one_at n) found sorted is

pub rises-sorted : (ks : List ℕ) → IsNonDecreasing ks → Rises ks
rises-sorted ks up = rises-from ks up

-- ---- lists of which each number once

pub rises-strictly : (ks : List ℕ) → IsStrictlySortedBy nat_cmp ks → Rises ks
rises-strictly [] up = tt
rises-strictly (k ∷ ks) up = (
  All-weaker (λ n. k < n) (λ n. k ≤ n) (λ n more. omega (arith, more)) ks
      (above-first k ks (sorted_head nat_cmp k ks up)),
  rises-strictly ks (sorted_tail nat_cmp k ks up),
)

-- a number stands once among numbers that ascend, or not at all
pub at-most-once : (n : ℕ) (ks : List ℕ) → IsStrictlySortedBy nat_cmp ks → count_of n ks ≤ 1
at-most-once n [] up = omega arith
at-most-once n (k ∷ ks) up = elim (cases_eq k n) [
  | inl same ↦
      let over : All (λ m. k < m) ks = above-first k ks (sorted_head nat_cmp k ks up) in
      let none : count_of n ks ≡ 0 =
      count-below n ks (All-weaker (λ m. k < m) (λ m. n < m) (λ m more. omega (arith, same, more)) ks over) in
      let one : one_at n k ≡ 1 = ap (λ (t : Bool). cond t 1 0) (eq-eqb k n same) in
      omega (arith, none, one, count-first n k ks)
  | inr other ↦ omega (arith, count-other n k ks other, at-most-once n ks (sorted_tail nat_cmp k ks up))
]

-- two lists that ascend are the same where each number stands in both or in neither
pub same-members : (found numbers : List ℕ) → IsStrictlySortedBy nat_cmp found → IsStrictlySortedBy nat_cmp numbers
    → ((n : ℕ) → (1 ≤ count_of n found) ↔ (1 ≤ count_of n numbers)) → found ≡ numbers
same-members found numbers up ascend same =
    same-counts found numbers (rises-strictly found up) ascend (λ n. one n)
  where
    one : (n : ℕ) → count_of n found ≡ count_of n numbers
    one n =
        let left = at-most-once n found up in
        let right = at-most-once n numbers ascend in
        elim (cases_eq (count_of n found) 0) [
          | inl none ↦ elim (cases_eq (count_of n numbers) 0) [
            | inl neither ↦ none ∙ sym neither
            | inr some ↦
                let there : 1 ≤ count_of n found = (same n).1 (omega (arith, some)) in
                absurd (omega (arith, there, none))
          ]
          | inr some ↦
              let there : 1 ≤ count_of n numbers = (same n).0 (omega (arith, some)) in
              omega (arith, left, right, there, some)
        ]

-- ---- what is left of a list

module _ (n : ℕ) (p : ℕ → Bool) where
  kept-step : (b : Bool) (k : ℕ) (ks : List ℕ) → p k ≡ b → p n ≡ true
      → count_of n (filter p ks) ≡ count_of n ks
      → count_of n (cond b (k ∷ filter p ks) (filter p ks)) ≡ count_of n (k ∷ ks)
  kept-step true k ks here kept rest = omega (arith, rest, count-first n k ks, count-first n k (filter p ks))
  kept-step false k ks here kept rest =
      let other : k ≢ n = λ same.
      let yes : p k ≡ true = subst (λ (m : ℕ). p m ≡ true) (sym same) kept in
      absurd cc in
      omega (arith, rest, count-other n k ks other)

  -- a number that is kept stands as often
  pub count-kept : (ks : List ℕ) → p n ≡ true → count_of n (filter p ks) ≡ count_of n ks
  count-kept [] kept = refl
  count-kept (k ∷ ks) kept = kept-step (p k) k ks refl kept (count-kept ks kept)

  gone-step : (b : Bool) (k : ℕ) (ks : List ℕ) → p k ≡ b → p n ≡ false → count_of n (filter p ks) ≡ 0
      → count_of n (cond b (k ∷ filter p ks) (filter p ks)) ≡ 0
  gone-step true k ks here gone rest =
      let other : k ≢ n = λ same.
      let no : p k ≡ false = subst (λ (m : ℕ). p m ≡ false) (sym same) gone in
      absurd cc in
      omega (arith, rest, count-other n k (filter p ks) other)
  gone-step false k ks here gone rest = rest

  -- one that is not does not stand there
  pub count-gone : (ks : List ℕ) → p n ≡ false → count_of n (filter p ks) ≡ 0
  count-gone [] gone = refl
  count-gone (k ∷ ks) gone = gone-step (p k) k ks refl gone (count-gone ks gone)

-- a number stands among the parts of items as often as in each of them
pub count-flat : {X : Type 0} (f : X → List ℕ) (xs : List X) (n : ℕ)
    → count_of n (flat_map f xs) ≡ sum_by (λ x. count_of n (f x)) xs
count-flat f [] n = refl
count-flat {X} f (x ∷ xs) n =
    let sum = sum_by-cons (λ (y : X). count_of n (f y)) x xs in
    count-append n (f x) (flat_map f xs)
    ∙ ap (λ k. count_of n (f x) + k) (count-flat f xs n)
    ∙ sym sum
