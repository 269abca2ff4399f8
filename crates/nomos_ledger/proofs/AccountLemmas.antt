-- Names of accounts beside the texts that are kept.
use Rattle.std.proofs.Common.{◌≡◌, ◌∙◌, ℕ, ◌+◌, ◌≤◌, Bool, true, false, List, [], ◌∷◌, ◌++◌, length, map, position, Some, None, ltb, ap, refl, arith}
use Rattle.std.specs.Prelude.{if◌then◌else◌}
use Rattle.std.specs.List.{list_any, position_or_len}
use Rattle.std.specs.Str.{bytes_eq}
use Rattle.std.proofs.lemmas.Bool.Decides.{nat_tests}
use Rattle.std.proofs.lemmas.Cmp.{nat_list_eq_equiv}
use Rattle.std.proofs.lemmas.List.{length-map, map-append}
use Rattle.nomos_legal.specs.Ledger.{account_of}

-- where no place is found, nothing passes
none-passes : {X : Type 0} (p : X → Bool) (xs : List X) → length xs ≤ position_or_len p xs → list_any p xs ≡ false
none-passes p [] le = refl
none-passes p (x ∷ xs) le = by (p x) refl (none-passes p xs)
  where
    by : (b : Bool) → p x ≡ b → (length xs ≤ position_or_len p xs → list_any p xs ≡ false) → list_any p (x ∷ xs) ≡ false
    by true e ih = let at : position_or_len p (x ∷ xs) ≡ 0 = rw e refl in absurd (omega (arith, at, le))
    by false e ih =
        let at : position_or_len p (x ∷ xs) ≡ 1 + position_or_len p xs = rw e refl in
        let rest = ih (omega (arith, at, le)) in rw (e, rest) refl

pub none-among : {X : Type 0} (p : X → Bool) (xs : List X) → position p xs ≡ None → list_any p xs ≡ false
none-among p xs none = by (ltb (position_or_len p xs) (length xs)) refl
  where
    by : (b : Bool) → ltb (position_or_len p xs) (length xs) ≡ b → list_any p xs ≡ false
    by true e =
        let some : position p xs ≡ Some (position_or_len p xs) = rw e refl in
        absurd (let f = none in let g = some in cc)
    by false e = none-passes p xs (grind (arith, nat_tests))

module _ {X : Type 0} (text : X → List ℕ) (name : List ℕ) where
  place-account : (xs : List X) → position_or_len (λ x. bytes_eq name (text x)) xs
      ≡ position_or_len (λ a. bytes_eq a name) (map text xs)
  place-account [] = refl
  place-account (x ∷ xs) = rw (nat_list_eq_equiv.symm name (text x), place-account xs) refl

  -- the account of a name stands where the text of its item is that name
  pub found-account : (xs : List X) → position (λ x. bytes_eq name (text x)) xs ≡ account_of (map text xs) name
  found-account xs = rw (place-account xs, length-map xs text) refl

-- a name that no account has is put at the end
pub put-account : {X : Type 0} (text : X → List ℕ) (xs ys : List X) (x : X) (names : List (List ℕ)) (name : List ℕ)
    → map text xs ≡ names → text x ≡ name → account_of names name ≡ None
    → ys ≡ (if list_any (λ y. bytes_eq (text x) (text y)) xs then xs else xs ++ x ∷ [])
    → map text ys ≡ names ++ name ∷ []
put-account text xs ys x names name view is none kept =
    let at : position (λ y. bytes_eq (text x) (text y)) xs ≡ None =
    found-account text (text x) xs ∙ (λ i. account_of (view i) (is i)) ∙ none in
    let new : list_any (λ y. bytes_eq (text x) (text y)) xs
    ≡ false = none-among (λ y. bytes_eq (text x) (text y)) xs at in
    ap (map text) kept ∙ rw new (map-append text xs (x ∷ [])) ∙ (λ i. view i ++ is i ∷ [])
