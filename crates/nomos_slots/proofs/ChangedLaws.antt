-- Laws of lists of which the first things are changed alike.
use Rattle.std.proofs.Common.{◌≡◌, ◌<◌, ◌≤◌, ◌+◌, zero, suc, ℕ, List, [], ◌∷◌, length, get_or, set, map, refl, sym, ap, ◌∙◌, arith}

module _ {X : Type 0} (f : X → X) where
  abbrev pub changed_first : ℕ → List X → List X
  changed_first zero xs = xs
  changed_first (suc n) [] = []
  changed_first (suc n) (x ∷ xs) = f x ∷ changed_first n xs

  pub changed-read : (n : ℕ) (xs : List X) (d : X) → get_or (changed_first n xs) n d ≡ get_or xs n d
  changed-read zero xs d = refl
  changed-read (suc n) [] d = refl
  changed-read (suc n) (x ∷ xs) d = changed-read n xs d

  pub length-changed : (n : ℕ) (xs : List X) → length (changed_first n xs) ≡ length xs
  length-changed zero xs = refl
  length-changed (suc n) [] = refl
  length-changed (suc n) (x ∷ xs) = ap (λ k. suc k) (length-changed n xs)

  changed-suc : (n : ℕ) (xs : List X) (d : X) → n < length xs
      → set (changed_first n xs) n (f (get_or xs n d)) ≡ changed_first (suc n) xs
  changed-suc zero [] d within = absurd (omega arith)
  changed-suc zero (x ∷ xs) d within = refl
  changed-suc (suc n) [] d within = absurd (omega arith)
  changed-suc (suc n) (x ∷ xs) d within =
      let l : n < length xs = omega arith in ap (λ ys. f x ∷ ys) (changed-suc n xs d l)

  pub changed-next : (n : ℕ) (xs : List X) (d : X) → n < length xs
      → set (changed_first n xs) n (f (get_or xs n d)) ≡ changed_first (n + 1) xs
  changed-next n xs d within =
      let next : suc n ≡ n + 1 = omega arith in changed-suc n xs d within ∙ ap (λ k. changed_first k xs) next

  -- the next one, where it stays as it is
  stays-suc : (n : ℕ) (xs : List X) (d : X) → n < length xs → f (get_or xs n d) ≡ get_or xs n d
      → changed_first n xs ≡ changed_first (suc n) xs
  stays-suc zero [] d within same = absurd (omega arith)
  stays-suc zero (x ∷ xs) d within same = ap (λ y. y ∷ xs) (sym same)
  stays-suc (suc n) [] d within same = absurd (omega arith)
  stays-suc (suc n) (x ∷ xs) d within same =
      let l : n < length xs = omega arith in ap (λ ys. f x ∷ ys) (stays-suc n xs d l same)

  pub changed-same : (n : ℕ) (xs : List X) (d : X) → n < length xs → f (get_or xs n d) ≡ get_or xs n d
      → changed_first n xs ≡ changed_first (n + 1) xs
  changed-same n xs d within same =
      let next : suc n ≡ n + 1 = omega arith in stays-suc n xs d within same ∙ ap (λ k. changed_first k xs) next

  pub changed-all : (n : ℕ) (xs : List X) → length xs ≤ n → changed_first n xs ≡ map f xs
  changed-all zero [] past = refl
  changed-all zero (x ∷ xs) past = absurd (omega arith)
  changed-all (suc n) [] past = refl
  changed-all (suc n) (x ∷ xs) past = let l : length xs ≤ n = omega arith in ap (λ ys. f x ∷ ys) (changed-all n xs l)
