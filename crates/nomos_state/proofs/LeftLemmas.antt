-- What is left of a list whose front is gone, where something comes or goes behind it.
use Rattle.std.proofs.Common.{◌≡◌, ◌<◌, ◌≤◌, ◌+◌, ◌∙◌, ℕ, zero, suc, List, [], ◌∷◌, length, drop, set, Some, refl, sym, ap, arith}
use Rattle.std.proofs.lemmas.List.{get_or-set_same, set-get_or, set-set}
use Rattle.std.specs.List.{insert, remove, slice_get, slice_index_or}

module _ {X : Type 0} where
  -- one thing more at the front is gone
  pub left-next : (gone : ℕ) (xs : List X) → gone < length xs → drop (suc gone) xs ≡ remove (drop gone xs) 0
  left-next gone [] within = absurd (omega arith)
  left-next zero (x ∷ xs) within = refl
  left-next (suc gone) (x ∷ xs) within = left-next gone xs (omega arith)

  pub left-removed : (gone : ℕ) (xs : List X) (at : ℕ) → gone ≤ length xs
      → drop gone (remove xs (gone + at)) ≡ remove (drop gone xs) at
  left-removed zero xs at within =
      let none : zero + at ≡ at = omega arith in
      ap (λ (n : ℕ). remove xs n) none
  left-removed (suc gone) [] at within = absurd (omega arith)
  left-removed (suc gone) (x ∷ xs) at within =
      let further : suc gone + at ≡ suc (gone + at) = omega arith in
      ap (λ (n : ℕ). drop (suc gone) (remove (x ∷ xs) n)) further ∙ left-removed gone xs at (omega arith)

  pub left-inserted : (gone : ℕ) (xs : List X) (at : ℕ) (y : X) → gone ≤ length xs
      → drop gone (insert xs (gone + at) y) ≡ insert (drop gone xs) at y
  left-inserted zero xs at y within =
      let none : zero + at ≡ at = omega arith in
      ap (λ (n : ℕ). insert xs n y) none
  left-inserted (suc gone) [] at y within = absurd (omega arith)
  left-inserted (suc gone) (x ∷ xs) at y within =
      let further : suc gone + at ≡ suc (gone + at) = omega arith in
      ap (λ (n : ℕ). drop (suc gone) (insert (x ∷ xs) n y)) further ∙ left-inserted gone xs at y (omega arith)

  pub left-read : (gone : ℕ) (xs : List X) (at : ℕ) → slice_get (drop gone xs) at ≡ slice_get xs (gone + at)
  left-read zero xs at =
      let none : zero + at ≡ at = omega arith in
      sym (ap (slice_get xs) none)
  left-read (suc gone) [] at = refl
  left-read (suc gone) (x ∷ xs) at =
      let further : suc gone + at ≡ suc (gone + at) = omega arith in
      left-read gone xs at ∙ sym (ap (slice_get (x ∷ xs)) further)

  -- what is read within
  pub read-there : (xs : List X) (at : ℕ) → at < length xs → (x : X) × (slice_get xs at ≡ Some x)
  read-there [] at within = absurd (omega arith)
  read-there (x ∷ xs) zero within = (x, refl)
  read-there (x ∷ xs) (suc at) within = read-there xs at (omega arith)

  -- ---- rows, of which the one at a place changes

  abbrev there : List (List X) → ℕ → List X
  there rows place = slice_index_or rows place []

  -- what stands there then
  pub row-there : (rows now : List (List X)) (place : ℕ) (row : List X) → place < length rows → now ≡ set rows place row
      → there now place ≡ row
  row-there rows now place row within is =
      ap (λ (rs : List (List X)). there rs place) is ∙ get_or-set_same rows place row [] within

  -- only that row changed
  pub only-there : (rows now : List (List X)) (place : ℕ) (row : List X) → place < length rows
      → now ≡ set rows place row
      → now ≡ set rows place (there now place)
  only-there rows now place row within is = is ∙ ap (set rows place) (sym (row-there rows now place row within is))

  pub only-itself : (rows : List (List X)) (place : ℕ) → rows ≡ set rows place (there rows place)
  only-itself rows place = sym (set-get_or rows place [])

  pub only-twice : (rows between now : List (List X)) (place : ℕ) → between ≡ set rows place (there between place)
      → now ≡ set between place (there now place) → now ≡ set rows place (there now place)
  only-twice rows between now place first second =
      second
      ∙ ap (λ (rs : List (List X)). set rs place (there now place)) first
      ∙ set-set rows place (there between place) (there now place)
