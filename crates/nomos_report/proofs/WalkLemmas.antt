-- What is printed of a list in order of numbers, by going from one number to the next.
use Rattle.std.proofs.Common.{◌≡◌, ◌∙◌, ℕ, ◌<◌, ◌≤◌, nat_lt, Bool, true, false, cond, List, [], ◌∷◌, ◌++◌, map, Contains, ap, refl, sym, arith, inl, inr, append_assoc, append-nil}
use Rattle.std.proofs.lemmas.Bool.{le-ltb, lt-ltb, ltb-false, ltb-true}
use Rattle.std.proofs.lemmas.List.Elements.{Contains-append_cases, Contains-append_right}
use Rattle.std.proofs.lemmas.Map.Keys.{sorted_head, sorted_tail}
use Rattle.std.specs.List.{flat_map}
use Rattle.std.specs.List.Sorted.{IsStrictlySortedBy}
use Rattle.std.specs.Ordering.{nat_cmp}
use Rattle.nomos_machine.proofs.PutLaws.{contains-one}
use Rattle.nomos_deeds.proofs.LowestLaws.{over-each}
use Rattle.nomos_report.specs.mirror.Walked.{lines_to, walked}

module _ {X : Type 0} (key : X → ℕ) (lines : X → List ℕ) where
  -- ---- one element

  silent : (n : ℕ) (x : X) → n < key x → lines_to key lines n x ≡ []
  silent n x over = ap (λ (b : Bool). cond b [] (lines x)) (lt-ltb n (key x) over)

  told : (n : ℕ) (x : X) → key x ≤ n → lines_to key lines n x ≡ lines x
  told n x within = ap (λ (b : Bool). cond b [] (lines x)) (le-ltb n (key x) within)

  -- nothing comes of an element between two numbers that has no lines
  same : (n m : ℕ) (x : X) → key x ≤ m → (n < key x → lines x ≡ []) → lines_to key lines m x ≡ lines_to key lines n x
  same n m x within none = at (nat_lt n (key x)) refl
    where
      at : (b : Bool) → nat_lt n (key x) ≡ b → lines_to key lines m x ≡ cond b [] (lines x)
      at true over = told m x within ∙ none (ltb-true n (key x) over)
      at false below = told m x within

  -- ---- all

  -- Over the highest number nothing is printed.
  pub walked-none : (n : ℕ) (xs : List X) → ((y : X) → Contains xs y → n < key y) → walked key lines n xs ≡ []
  walked-none n [] over = refl
  walked-none n (e ∷ xs) over =
      let first = silent n e (over e (0, omega arith, refl)) in
      let rest = walked-none n xs (λ y there. over y (Contains-append_right (e ∷ []) xs y there)) in
      ap (λ (t : List ℕ). t ++ walked key lines n xs) first ∙ rest

  -- Nor is anything printed up to a number where no element up to it has lines.
  pub walked-silent : (n : ℕ) (xs : List X) → ((y : X) → Contains xs y → key y ≤ n → lines y ≡ [])
      → walked key lines n xs ≡ []
  walked-silent n [] none = refl
  walked-silent n (e ∷ xs) none =
      let first : lines_to key lines n e ≡ [] = at (nat_lt n (key e)) refl in
      let rest = walked-silent n xs (λ y there. none y (Contains-append_right (e ∷ []) xs y there)) in
      ap (λ (t : List ℕ). t ++ walked key lines n xs) first ∙ rest
    where
      at : (b : Bool) → nat_lt n (key e) ≡ b → cond b [] (lines e) ≡ []
      at true over = refl
      at false below = none e (0, omega arith, refl) (ltb-false n (key e) below)

  -- What is printed up to a number, where no element over it has lines, is all.
  pub walked-all : (n : ℕ) (xs : List X) → ((y : X) → Contains xs y → n < key y → lines y ≡ [])
      → walked key lines n xs ≡ flat_map lines xs
  walked-all n [] none = refl
  walked-all n (e ∷ xs) none =
      let first : lines_to key lines n e ≡ lines e = at (nat_lt n (key e)) refl in
      let rest = walked-all n xs (λ y there. none y (Contains-append_right (e ∷ []) xs y there)) in
      ap (λ (t : List ℕ). t ++ walked key lines n xs) first ∙ ap (λ (t : List ℕ). lines e ++ t) rest
    where
      at : (b : Bool) → nat_lt n (key e) ≡ b → cond b [] (lines e) ≡ lines e
      at true over = sym (none e (0, omega arith, refl) (ltb-true n (key e) over))
      at false below = refl

  -- From one number to a higher one that an element has, where none between has lines, the lines of this element come.
  pub walked-next : (n m : ℕ) (xs : List X) (x : X) → IsStrictlySortedBy nat_cmp (map key xs) → Contains xs x
      → key x ≡ m → n < m → ((y : X) → Contains xs y → n < key y → key y < m → lines y ≡ [])
      → walked key lines m xs ≡ walked key lines n xs ++ lines x
  walked-next n m [] x order there is over none = absurd (omega (arith, there.1))
  walked-next n m (e ∷ xs) x order there is over none =
      elim (Contains-append_cases (e ∷ []) xs x there) [
        | inl first ↦ here (contains-one e x first)
        | inr further ↦
            behind further (walked-next n m xs x (sorted_tail nat_cmp (key e) (map key xs) order) further is over
            (λ y among. none y (Contains-append_right (e ∷ []) xs y among)))
      ]
    where
      higher : (y : X) → Contains xs y → key e < key y
      higher y inside = over-each key (key e) xs y (sorted_head nat_cmp (key e) (map key xs) order) inside

      here : e ≡ x → walked key lines m (e ∷ xs) ≡ walked key lines n (e ∷ xs) ++ lines x
      here own =
          let number : key e ≡ m = ap key own ∙ is in
          let up : walked key lines m xs ≡ [] =
          walked-none m xs (λ y inside. let more = higher y inside in omega (arith, more, number))
          in
          let down : walked key lines n xs ≡ [] =
          walked-none n xs (λ y inside. let more = higher y inside in omega (arith, more, number, over))
          in
          let first : lines_to key lines m e ≡ lines x = told m e (omega (arith, number)) ∙ ap lines own in
          let before : lines_to key lines n e ≡ [] = silent n e (omega (arith, number, over)) in
          (λ i. first i ++ up i)
          ∙ append-nil (lines x)
          ∙ sym (λ i. (before i ++ down i) ++ lines x)

      behind : Contains xs x → walked key lines m xs ≡ walked key lines n xs ++ lines x
          → walked key lines m (e ∷ xs) ≡ walked key lines n (e ∷ xs) ++ lines x
      behind inside rest =
          let below = higher x inside in
          let first : lines_to key lines m e ≡ lines_to key lines n e =
          same n m e (omega (arith, below, is)) (λ more. none e (0, omega arith, refl) more (omega (arith, below, is)))
          in
          (λ i. first i ++ rest i)
          ∙ sym (append_assoc (lines_to key lines n e) (walked key lines n xs) (lines x))
