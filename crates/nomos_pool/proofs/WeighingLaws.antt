-- However items are weighed, those that are gathered weigh what those that were dealt weigh, and they are as many.
use Rattle.std.proofs.Common.{◌≡◌, ◌≢◌, ◌∙◌, ℕ, zero, suc, ◌+◌, ◌<◌, ◌≤◌, Bool, true, false, cond, eqb, List, [], ◌∷◌, All, length, map, sum_by, refl, sym, ap, arith, eq-eqb, ne_eqb}
use Rattle.std.proofs.lemmas.List.{length-map}
use Rattle.std.proofs.lemmas.List.Elements.{All-head, All-tail}
use Rattle.std.proofs.lemmas.List.Sums.{sum_by-cons}
use mathlib.Core.Logic.{dite}
use native.Mathlib.Decide.{ℕ_discrete}
use Rattle.nomos_pool.specs.Gathering.{IsGathering, dealt_to}
use Rattle.nomos_pool.specs.PoolRule.{sent_by}
use Rattle.nomos_pool.specs.declared.pool.Submission.{Submission}

-- what so many threads have together
abbrev total : ℕ → (ℕ → ℕ) → ℕ
total zero has = 0
total (suc n) has = total n has + has n

total-none : (n : ℕ) → total n (λ j. 0) ≡ 0
total-none zero = refl
total-none (suc n) = omega (arith, total-none n)

total-same : (n : ℕ) (has had : ℕ → ℕ) → ((j : ℕ) → j < n → has j ≡ had j) → total n has ≡ total n had
total-same zero has had same = refl
total-same (suc n) has had same =
    omega (arith, same n (omega arith), total-same n has had (λ j low. same j (omega (arith, low))))

-- what they have where one of them has so much more
abbrev with_more : ℕ → ℕ → (ℕ → ℕ) → ℕ → ℕ
with_more t w has j = cond (eqb t j) (w + has j) (has j)

more-here : (t w : ℕ) (has : ℕ → ℕ) (j : ℕ) → t ≡ j → with_more t w has j ≡ w + has j
more-here t w has j same = ap (λ (b : Bool). cond b (w + has j) (has j)) (eq-eqb t j same)

more-else : (t w : ℕ) (has : ℕ → ℕ) (j : ℕ) → t ≢ j → with_more t w has j ≡ has j
more-else t w has j other = ap (λ (b : Bool). cond b (w + has j) (has j)) (ne_eqb t j other)

total-others : (n t w : ℕ) (has : ℕ → ℕ) → n ≤ t → total n (with_more t w has) ≡ total n has
total-others n t w has high =
    total-same n (with_more t w has) has (λ j low. more-else t w has j (λ same. omega (arith, same, high, low)))

total-more : (n t w : ℕ) (has : ℕ → ℕ) → t < n → total n (with_more t w has) ≡ w + total n has
total-more zero t w has low = absurd (omega (arith, low))
total-more (suc n) t w has low = dite (ℕ_discrete t n)
    (λ (same : t ≡ n). omega (arith, total-others n t w has (omega (arith, same)), more-here t w has n same))
    (λ (other : t ≢ n).
    omega (arith, total-more n t w has (omega (arith, low, other)), more-else t w has n other))

module _ {T : Type 0} (weigh : T → ℕ) where
  weighs-first : (b : Bool) (x : T) (xs : List T)
      → sum_by weigh (cond b (x ∷ xs) xs) ≡ cond b (weigh x + sum_by weigh xs) (sum_by weigh xs)
  weighs-first true x xs = sum_by-cons weigh x xs
  weighs-first false x xs = refl

  weighed-dealt : (n : ℕ) (threads : List ℕ) (items : List T) → length threads ≡ length items
      → All (λ j. j < n) threads → total n (λ j. sum_by weigh (dealt_to j threads items)) ≡ sum_by weigh items
  weighed-dealt n [] [] many low = total-none n
  weighed-dealt n [] (x ∷ items) many low = absurd (omega (arith, many))
  weighed-dealt n (t ∷ threads) [] many low = absurd (omega (arith, many))
  weighed-dealt n (t ∷ threads) (x ∷ items) many low =
      (λ i. total n (λ j. weighs-first (eqb t j) x (dealt_to j threads items) i))
      ∙ (total-more n t (weigh x) (λ j. sum_by weigh (dealt_to j threads items))
      (All-head (λ j. j < n) t threads low)
      ∙ (ap (λ (w : ℕ). weigh x + w)
      (weighed-dealt n threads items (omega (arith, many)) (All-tail (λ j. j < n) t threads low))
      ∙ sym (sum_by-cons weigh x items)))

  weighed-sent : (n : ℕ) (gathered : List (Submission T)) → All (λ s. s.sender < n) gathered
      → total n (λ j. sum_by weigh (sent_by j gathered)) ≡ sum_by weigh (map (λ s. s.item) gathered)
  weighed-sent n [] low = total-none n
  weighed-sent n (s ∷ gathered) low =
      (λ i. total n (λ j. weighs-first (eqb s.sender j) s.item (sent_by j gathered) i))
      ∙ (total-more n s.sender (weigh s.item) (λ j. sum_by weigh (sent_by j gathered))
      (All-head (λ (y : Submission T). y.sender < n) s gathered low)
      ∙ (ap (λ (w : ℕ). weigh s.item + w)
      (weighed-sent n gathered (All-tail (λ (y : Submission T). y.sender < n) s gathered low))
      ∙ sym (sum_by-cons weigh s.item (map (λ y. y.item) gathered))))

  -- however items are weighed, those that are gathered weigh what those that were dealt weigh
  pub gathered-weighs : (n : ℕ) (threads : List ℕ) (items : List T) (gathered : List (Submission T))
      → length threads ≡ length items → All (λ j. j < n) threads → IsGathering n threads items gathered
      → sum_by weigh (map (λ s. s.item) gathered) ≡ sum_by weigh items
  gathered-weighs n threads items gathered many low g =
      sym (weighed-sent n gathered g.others)
      ∙ (total-same n (λ j. sum_by weigh (sent_by j gathered)) (λ j. sum_by weigh (dealt_to j threads items))
      (λ j below. ap (sum_by weigh) (g.each j below))
      ∙ weighed-dealt n threads items many low)

module _ {T : Type 0} where
  counts : (xs : List T) → sum_by (λ x. 1) xs ≡ length xs
  counts [] = refl
  counts (x ∷ xs) = omega (arith, sum_by-cons (λ (y : T). 1) x xs, counts xs)

  -- as many are gathered as were dealt
  pub gathered-length : (n : ℕ) (threads : List ℕ) (items : List T) (gathered : List (Submission T))
      → length threads ≡ length items → All (λ j. j < n) threads → IsGathering n threads items gathered
      → length gathered ≡ length items
  gathered-length n threads items gathered many low g =
      sym (length-map gathered (λ s. s.item))
      ∙ (sym (counts (map (λ s. s.item) gathered))
      ∙ (gathered-weighs (λ x. 1) n threads items gathered many low g ∙ counts items))
