-- The first of those that come under their numbers, and those behind it.
use Rattle.std.proofs.Common.{◌≡◌, ◌≤◌, ◌<◌, ◌+◌, ℕ, List, [], ◌∷◌, map, All, Less, sym, arith}
use Rattle.std.proofs.lemmas.Cmp.{ranked}
use Rattle.std.proofs.lemmas.List.Elements.{All-nil, All-cons, All-head, All-tail}
use Rattle.std.proofs.lemmas.Map.Keys.{sorted_head, sorted_tail}
use Rattle.std.specs.List.{AllByRecursion}
use Rattle.std.specs.Ordering.{nat_cmp}
use Rattle.nomos_ir.specs.Bindings.{IsAscending, bindings_of}
use Rattle.nomos_ir.specs.declared.ids.VarId.{VarId}
use Rattle.nomos_ir.proofs.BindingLaws.{ascending-same, bindings_of-ascending, bound-in_bindings_of}
use Rattle.nomos_restore.specs.Numbering.{AreNext}

module _ {X : Type 0} (number_of : X → ℕ) where
  -- what is over a number is from the next one on
  all-over : (n : ℕ) (xs : List X) → AllByRecursion (λ m. nat_cmp n m ≡ Less) (map number_of xs)
      → All (λ x. n + 1 ≤ number_of x) xs
  all-over n [] over = All-nil (λ x. n + 1 ≤ number_of x)
  all-over n (x ∷ xs) over =
      let lower : n < number_of x = ranked n (number_of x) Less (sym over.0) in
      let here : n + 1 ≤ number_of x = omega arith in
      All-cons (λ y. n + 1 ≤ number_of y) x xs here (all-over n xs over.1)

  module _ (next limit : ℕ) (x : X) (xs : List X) (are : AreNext number_of next limit (x ∷ xs)) where
    pub first-above : next ≤ number_of x
    first-above = All-head (λ y. next ≤ number_of y) x xs are.above

    pub first-below : number_of x < limit
    first-below = All-head (λ y. number_of y < limit) x xs are.below

    pub rest-next : AreNext number_of (number_of x + 1) limit xs
    rest-next = record {
      order = sorted_tail nat_cmp (number_of x) (map number_of xs) are.order;
      above = all-over (number_of x) xs (sorted_head nat_cmp (number_of x) (map number_of xs) are.order);
      below = All-tail (λ y. number_of y < limit) x xs are.below;
    }

-- ---- channels that stand in order

pub bindings-same : {X : Type 0} (b : List (VarId × X)) → IsAscending b → bindings_of b ≡ b
bindings-same b ascending =
    ascending-same (bindings_of b) b (bindings_of-ascending b) ascending (λ v. bound-in_bindings_of v b)
