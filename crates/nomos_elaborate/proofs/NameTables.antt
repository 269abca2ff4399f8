-- Names under their numbers, beside the texts that are kept.
use Rattle.std.proofs.Common.{◌≡◌, ℕ, ◌+◌, ◌<◌, ◌≤◌, Bool, true, false, not, ltb, List, [], ◌∷◌, ◌++◌, length, map, unwrap_or, refl, sym, ap, ◌∙◌, arith}
use Rattle.std.specs.Prelude.{if◌then◌else◌}
use Rattle.std.specs.List.{list_any, position, position_or_len}
use Rattle.std.specs.Str.{bytes_eq}
use Rattle.std.proofs.lemmas.Bool.Decides.{nat_tests}
use Rattle.std.proofs.lemmas.Cmp.{nat_list_eq_equiv}
use Rattle.std.proofs.lemmas.List.{length_push, map-append}
use Rattle.std.proofs.lemmas.List.Sums.{prefix_len-le-length}
use Rattle.nomos_elaborate.specs.mirror.Seeing.{name_seen}
use Rattle.nomos_elaborate.specs.Names.{Names, is_among, number_of, seen}
use Rattle.nomos_elaborate.proofs.NumberLaws.{bytes_eq_same}

-- two texts are compared either way
pub bytes_eq_swap : (m n : List ℕ) → bytes_eq m n ≡ bytes_eq n m
bytes_eq_swap m n = nat_list_eq_equiv.symm m n

-- the place of the first item that passes, or the number of items
pub place_or_len : {X : Type 0} (p : X → Bool) (xs : List X)
    → unwrap_or (position p xs) (length xs) ≡ position_or_len p xs
place_or_len p xs = go (ltb (position_or_len p xs) (length xs)) refl
  where
    go : (b : Bool) → ltb (position_or_len p xs) (length xs) ≡ b
        → unwrap_or (position p xs) (length xs) ≡ position_or_len p xs
    go true e = rw e refl
    go false e =
        let le : position_or_len p xs ≤ length xs = prefix_len-le-length (λ x. not (p x)) xs in
        let same : length xs ≡ position_or_len p xs = grind (arith, nat_tests) in
        rw e same

-- a name that is seen has the place that it has among the names, or the next one
number_of-seen : (names : Names) (n : List ℕ) → number_of (seen names n) n ≡ number_of names n
number_of-seen names n = go (is_among names n) refl
  where
    at_end : (names : Names) → is_among names n ≡ false → number_of (names ++ n ∷ []) n ≡ number_of names n
    at_end [] out = rw (bytes_eq_same n) refl
    at_end (m ∷ names) out = by (bytes_eq m n) refl (at_end names)
      where
        by : (b : Bool) → bytes_eq m n ≡ b
            → (is_among names n ≡ false → number_of (names ++ n ∷ []) n ≡ number_of names n)
            → number_of (m ∷ names ++ n ∷ []) n ≡ number_of (m ∷ names) n
        by true e ih = rw e refl
        by false e ih = let h = ih (rw e at out) in rw (e, h) refl

    go : (b : Bool) → is_among names n ≡ b → number_of (seen names n) n ≡ number_of names n
    go true e = rw e refl
    go false e = rw e (at_end names e)

-- a name whose place is below the number of names is among them
among-below : (names : Names) (n : List ℕ) → number_of names n < length names → is_among names n ≡ true
among-below [] n below = absurd (omega (arith, below))
among-below (m ∷ names) n below = by (bytes_eq m n) refl (λ inside. among-below names n inside)
  where
    by : (b : Bool) → bytes_eq m n ≡ b → (number_of names n < length names → is_among names n ≡ true)
        → is_among (m ∷ names) n ≡ true
    by true e further = rw e refl
    by false e further = let there = rw e at below in rw (e, further (omega (arith, there))) refl

-- a name that is among the names is seen there, and nothing is put
pub known-seen : (names : Names) (n : List ℕ) (place : ℕ) → place ≡ number_of names n → place < length names
    → (names, place) ≡ name_seen names n
known-seen names n place at below =
    let among = among-below names n (rw (← at) below) in
    let kept : names ≡ seen names n = rw among refl in
    let second : place ≡ number_of (seen names n) n = at ∙ sym (number_of-seen names n) in
    (λ i. (kept i, second i))

module _ {X : Type 0} (text : X → List ℕ) (n : List ℕ) where
  -- a name is among the texts of items where the text of one is that name
  pub any-is_among : (xs : List X) → list_any (λ x. bytes_eq n (text x)) xs ≡ is_among (map text xs) n
  any-is_among [] = refl
  any-is_among (x ∷ xs) = rw (bytes_eq_swap n (text x), any-is_among xs) refl

  -- and its place is that of the first such item
  pub place-number_of : (xs : List X) → position_or_len (λ x. bytes_eq n (text x)) xs ≡ number_of (map text xs) n
  place-number_of [] = refl
  place-number_of (x ∷ xs) = rw (bytes_eq_swap n (text x), place-number_of xs) refl

module _ {X : Type 0} (text : X → List ℕ) (xs : List X) (x : X) where
  -- the items with one more at the end, if no item has its text
  abbrev put : List X
  put = if list_any (λ y. bytes_eq (text x) (text y)) xs then xs else xs ++ x ∷ []

  put-seen : map text put ≡ seen (map text xs) (text x)
  put-seen = go (list_any (λ y. bytes_eq (text x) (text y)) xs) refl
    where
      go : (b : Bool) → list_any (λ y. bytes_eq (text x) (text y)) xs ≡ b → map text put ≡ seen (map text xs) (text x)
      go true e = let among = sym (any-is_among text (text x) xs) ∙ e in rw (e, among) refl
      go false e = let among = sym (any-is_among text (text x) xs) ∙ e in rw (e, among) (map-append text xs (x ∷ []))

  -- a name that is seen, with its place
  pub put-name_seen : (ys : List X) (names : Names) (n : List ℕ) (place : ℕ) → ys ≡ put → map text xs ≡ names
      → text x ≡ n → place ≡ position_or_len (λ y. bytes_eq (text x) (text y)) xs
      → (map text ys, place) ≡ name_seen names n
  put-name_seen ys names n place kept view is at =
      let first : map text ys ≡ seen names n = ap (map text) kept ∙ put-seen ∙ (λ i. seen (view i) (is i)) in
      let second : place ≡ number_of (seen names n) n = at ∙ place-number_of text (text x) xs
      ∙ (λ i. number_of (view i) (is i)) ∙ sym (number_of-seen names n) in
      (λ i. (first i, second i))

-- a name is within the names or behind them, and where it is seen one name is added at most
pub number_of-within : (names : Names) (n : List ℕ) → number_of names n ≤ length names
number_of-within names n = prefix_len-le-length (λ m. not (bytes_eq m n)) names

pub seen-grows : (names : Names) (n : List ℕ) → length (seen names n) ≤ length names + 1
seen-grows names n = by (is_among names n)
  where
    by : (b : Bool) → length (if b then names else names ++ n ∷ []) ≤ length names + 1
    by true = omega arith
    by false = let e = length_push names n in omega arith

-- the same of a name that was seen
pub seen-within : (names new : Names) (n : List ℕ) (place : ℕ) → (new, place) ≡ name_seen names n → place ≤ length names
seen-within names new n place e =
    let at : place ≡ number_of names n = ap (λ (p : Names × ℕ). p.1) e ∙ number_of-seen names n in
    rw at (number_of-within names n)

pub seen-one_more : (names new : Names) (n : List ℕ) (place : ℕ) → (new, place) ≡ name_seen names n
    → length new ≤ length names + 1
seen-one_more names new n place e =
    let is : new ≡ seen names n = ap (λ (p : Names × ℕ). p.0) e in
    rw is (seen-grows names n)
