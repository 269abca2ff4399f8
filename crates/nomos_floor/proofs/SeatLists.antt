-- Views that stand in a list by their seats, and the numbers of the live ones.
use Rattle.std.proofs.Common.{◌≡◌, ◌≢◌, ℕ, zero, suc, ◌+◌, ◌<◌, ◌≤◌, List, [], ◌∷◌, set, sum_by, refl, ap, sym, ◌∙◌, arith}
use Rattle.std.proofs.lemmas.List.Sums.{sum_by-cons}
use mathlib.Core.Option.{some, some-injective, some-ne-none}
use lib.ListN.{get_elem?}
use Rattle.nomos_floor.specs.OwnEntries.{without_number, numbers_below}
use Rattle.nomos_floor.specs.FloorView.{if_live, live_numbers}
use Rattle.nomos_floor.specs.declared.view.PassView.{PassView}
use Rattle.nomos_floor.specs.declared.view.Stage.{Stage}
use Rattle.nomos_floor.specs.declared.view.Stage.TheVariants.{Idle, Waiting, Serving, Ended}
use Rattle.nomos_floor.proofs.HistoryLaws.{one_at, one_at_other, by_equal}

-- what is put at a seat is there
pub set_at_seat : {A : Type 0} (xs : List A) (i : ℕ) (a b : A) → get_elem? xs i ≡ some a
    → get_elem? (set xs i b) i ≡ some b
set_at_seat [] i a b e = absurd (some-ne-none a (sym e))
set_at_seat (x ∷ xs) zero a b e = refl
set_at_seat (x ∷ xs) (suc i) a b e = set_at_seat xs i a b e

module _ {A : Type 0} (f : A → ℕ) where
  -- the sum after a change of one view
  pub sum_set : (xs : List A) (i : ℕ) (a b : A) → get_elem? xs i ≡ some a
      → sum_by f (set xs i b) + f a ≡ sum_by f xs + f b
  sum_set [] i a b e = absurd (some-ne-none a (sym e))
  sum_set (x ∷ xs) zero a b e = omega (arith, ap f (some-injective x a e), sum_by-cons f x xs, sum_by-cons f b xs)
  sum_set (x ∷ xs) (suc i) a b e = omega (arith, sum_set xs i a b e, sum_by-cons f x xs, sum_by-cons f x (set xs i b))

  pub part_of_sum : (xs : List A) (i : ℕ) (a : A) → get_elem? xs i ≡ some a → f a ≤ sum_by f xs
  part_of_sum [] i a e = absurd (some-ne-none a (sym e))
  part_of_sum (x ∷ xs) zero a e = omega (arith, ap f (some-injective x a e), sum_by-cons f x xs)
  part_of_sum (x ∷ xs) (suc i) a e = omega (arith, part_of_sum xs i a e, sum_by-cons f x xs)

  pub parts_of_sum : (xs : List A) (i j : ℕ) (a b : A) → j ≢ i → get_elem? xs i ≡ some a → get_elem? xs j ≡ some b
      → f a + f b ≤ sum_by f xs
  parts_of_sum [] i j a b ne e e' = absurd (some-ne-none a (sym e))
  parts_of_sum (x ∷ xs) zero zero a b ne e e' = absurd (ne refl)
  parts_of_sum (x ∷ xs) zero (suc j) a b ne e e' =
      omega (arith, ap f (some-injective x a e), part_of_sum xs j b e', sum_by-cons f x xs)
  parts_of_sum (x ∷ xs) (suc i) zero a b ne e e' =
      omega (arith, ap f (some-injective x b e'), part_of_sum xs i a e, sum_by-cons f x xs)
  parts_of_sum (x ∷ xs) (suc i) (suc j) a b ne e e' =
      omega (arith, parts_of_sum xs i j a b (λ same. ne (ap suc same)) e e', sum_by-cons f x xs)

-- a number's first place, taken out
pub sum_by-without_number : (weight : ℕ → ℕ) (n : ℕ) (numbers : List ℕ) → 0 < sum_by (one_at n) numbers
    → sum_by weight (without_number n numbers) + weight n ≡ sum_by weight numbers
sum_by-without_number weight n [] some_there = absurd (omega arith)
sum_by-without_number weight n (m ∷ numbers) some_there =
    by_equal (λ l. sum_by weight l + weight n ≡ sum_by weight (m ∷ numbers)) m n numbers (m ∷ without_number n numbers)
    (λ same. omega (arith, ap weight same, sum_by-cons weight m numbers))
    (λ apart. omega (
      arith,
      sum_by-without_number weight n numbers
          (omega (arith, sum_by-cons (one_at n) m numbers, one_at_other n m apart)),
      sum_by-cons weight m numbers,
      sum_by-cons weight m (without_number n numbers),
    ))

-- the numbers below a bound: each stands there once, and no other
pub below_none : (n bound : ℕ) → bound ≤ n → sum_by (one_at n) (numbers_below bound) ≡ 0
below_none n zero past = refl
below_none n (suc bound) past =
    omega (
      arith,
      sum_by-cons (one_at n) bound (numbers_below bound),
      below_none n bound (omega arith),
      one_at_other n bound (λ e. omega arith),
    )

pub below_once : (n bound : ℕ) → n < bound → sum_by (one_at n) (numbers_below bound) ≡ 1
below_once n zero below = absurd (omega arith)
below_once n (suc bound) below =
    sum_by-cons (one_at n) bound (numbers_below bound)
    ∙ by_equal (λ l. l + sum_by (one_at n) (numbers_below bound) ≡ 1) bound n 1 0
    (λ same. omega (arith, below_none n bound (omega arith)))
    (λ apart. omega (arith, below_once n bound (omega arith)))

live_step : (weight : ℕ → ℕ) (stage : Stage) (n total : ℕ) (ns : List ℕ) → sum_by weight ns ≡ total
    → sum_by weight (if_live stage (n ∷ ns) ns) ≡ if_live stage (weight n) 0 + total
live_step weight Idle n total ns e = omega (arith, sum_by-cons weight n ns)
live_step weight (Waiting t) n total ns e = omega (arith, sum_by-cons weight n ns)
live_step weight (Serving t) n total ns e = omega (arith, sum_by-cons weight n ns)
live_step weight Ended n total ns e = omega arith

module _ {W E : Type 0} where
  -- the weight of a live view's number
  abbrev pub live_at : (ℕ → ℕ) → PassView W E → ℕ
  live_at weight v = if_live v.stage (weight v.number) 0

  pub sum_by-live_numbers : (weight : ℕ → ℕ) (views : List (PassView W E))
      → sum_by weight (live_numbers views) ≡ sum_by (live_at weight) views
  sum_by-live_numbers weight [] = refl
  sum_by-live_numbers weight (v ∷ views) =
      live_step weight v.stage v.number (sum_by (live_at weight) views) (live_numbers views)
      (sum_by-live_numbers weight views) ∙ sym (sum_by-cons (live_at weight) v views)
