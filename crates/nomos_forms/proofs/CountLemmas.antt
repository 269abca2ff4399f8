-- How often stars stand in differences of amounts: small numbers, at their places.
use Rattle.std.proofs.Common.{◌≡◌, ◌≢◌, ◌∙◌, ◌==◌, ◌+◌, ◌-◌, ◌*◌, ◌<◌, ◌≤◌, ℕ, zero, suc, ℤ, Bool, true, false, List, [], ◌∷◌, ◌++◌, length, get_or, map, All, refl, ap, sym, ⊎_elim, arith, pos, ◌-ℤ◌, cond}
use Rattle.std.proofs.Math.Nat.{suc-mul}
use Rattle.std.proofs.Math.Seq.{get_or-append_right}
use Rattle.std.proofs.lemmas.Bool.Decides.{eqb_tells}
use Rattle.std.proofs.lemmas.List.{length-append, flat_map_more, get_or_append_left}
use Rattle.std.proofs.lemmas.List.Elements.{All-nil, All-cons}
use Rattle.std.proofs.lemmas.List.FromFn.{get_or-map-range_with_len, length-map-range_with_len}
use Rattle.std.specs.List.{range_with_len, flat_map}
use Rattle.nomos_forms.specs.Bounds.{IsSmall}
use Rattle.nomos_forms.specs.mirror.StarCounts.{count_in, counts, counts_with, all_counts}

small-between : (b c : Bool) → IsSmall (cond b (pos 1) (pos 0) -ℤ cond c (pos 1) (pos 0))
small-between true true = omega arith
small-between true false = omega arith
small-between false true = omega arith
small-between false false = omega arith

small-over : (more less : ℕ) (stars : List ℕ)
    → All IsSmall (map (λ star. count_in more star -ℤ count_in less star) stars)
small-over more less [] = All-nil IsSmall
small-over more less (star ∷ stars) =
    All-cons IsSmall _ _ (small-between (more == star) (less == star)) (small-over more less stars)

pub counts-small : (n more less : ℕ) → All IsSmall (counts n more less)
counts-small n more less = small-over more less (range_with_len 1 n)

-- ---- at their places
block-at : {A : Type 0} (f : ℕ → List A) (w a m i j : ℕ) (d : A) → ((k : ℕ) → length (f k) ≡ w) → i < m → j < w
    → (i * w + j < length (flat_map f (range_with_len a m)))
    × (get_or (flat_map f (range_with_len a m)) (i * w + j) d ≡ get_or (f (a + i)) j d)
block-at f w a zero i j d wide below inside = absurd (omega (arith, below))
block-at f w a (suc m) zero j d wide below inside =
    let rest = flat_map f (range_with_len (a + 1) m) in
    let here : 0 * w + j ≡ j = omega arith in
    let first : a ≡ a + 0 = omega arith in
    let own : j < length (f a) = omega (arith, inside, wide a) in (
      omega (arith, own, here, length-append (f a) rest),
      (λ p. get_or (f a ++ rest) (here p) d) ∙ get_or_append_left (f a) rest d j own ∙ (λ p. get_or (f (first p)) j d),
    )
block-at f w a (suc m) (suc i) j d wide below inside =
    let rest = flat_map f (range_with_len (a + 1) m) in
    let more = block-at f w (a + 1) m i j d wide (omega (arith, below)) inside in
    let place : suc i * w + j - length (f a) ≡ i * w + j = omega (arith, suc-mul i w, wide a) in
    let next : a + 1 + i ≡ a + suc i = omega arith in (
      omega (arith, more.0, suc-mul i w, wide a, length-append (f a) rest),
      get_or-append_right (f a) rest (suc i * w + j) d (omega (arith, suc-mul i w, wide a))
          ∙ (λ p. get_or rest (place p) d) ∙ more.1 ∙ (λ p. get_or (f (next p)) j d),
    )

pub counts-at : (n more less : ℕ) → more ≤ n → less ≤ n → (more * (n + 1) + less < length (all_counts n))
    × (get_or (all_counts n) (more * (n + 1) + less) [] ≡ counts n more less)
counts-at n more less h i =
    let at = block-at (counts_with n) (n + 1) 0 (n + 1) more less []
    (λ k. length-map-range_with_len (counts n k) 0 (n + 1))
    (omega (arith, h)) (omega (arith, i)) in
    let own : 0 + more ≡ more = omega arith in (
      at.0,
      at.1 ∙ (λ p. get_or (counts_with n (own p)) less [])
          ∙ get_or-map-range_with_len (counts n more) 0 (n + 1) less less [] (omega (arith, i)) (omega arith),
    )

-- ---- of other stars that stand in as often
map-alike : (f g : ℕ → ℤ) (a n : ℕ) → ((s : ℕ) → a ≤ s → s < a + n → f s ≡ g s)
    → map f (range_with_len a n) ≡ map g (range_with_len a n)
map-alike f g a zero h = refl
map-alike f g a (suc n) h = λ p. h a (omega arith) (omega arith) p
    ∷ map-alike f g (a + 1) n (λ s low high. h s (omega (arith, low)) (omega (arith, high))) p

pub counts-alike : (n more less other another : ℕ) → ((s : ℕ) → 1 ≤ s → s ≤ n → count_in other s ≡ count_in more s)
    → ((s : ℕ) → 1 ≤ s → s ≤ n → count_in another s ≡ count_in less s) → counts n other another ≡ counts n more less
counts-alike n more less other another f g = map-alike _ _ 1 n (λ s low high. λ p.
    f s low (omega (arith, high)) p -ℤ g s low (omega (arith, high)) p)

-- a star behind all of them stands in as none does
pub none-past : (n star other : ℕ) → n < star → 1 ≤ other → other ≤ n → count_in 0 other ≡ count_in star other
none-past n star other past low high = ap (λ b. cond b (pos 1) (pos 0))
    (apart 0 other (omega (arith, low)) ∙ sym (apart star other (omega (arith, past, high))))
  where
    apart : (a b : ℕ) → a ≢ b → (a == b) ≡ false
    apart a b h = ⊎_elim (λ e. absurd (h e.1)) (λ e. e.0) (eqb_tells a b)

-- ---- one list of them more
push-range : (a n : ℕ) → range_with_len a (n + 1) ≡ range_with_len a n ++ (a + n) ∷ []
push-range a zero = let first : a ≡ a + 0 = omega arith in ap (λ k. k ∷ []) first
push-range a (suc n) =
    let last : a + 1 + n ≡ a + suc n = omega arith in
    let one : suc n + 1 ≡ suc (n + 1) = omega arith in
    ap (range_with_len a) one ∙ ap (λ ks. a ∷ ks) (push-range (a + 1) n ∙ ap (λ k. range_with_len (a + 1) n ++ k ∷ [])
    last)

pub blocks-more : {A : Type 0} (f : ℕ → List A) (n : ℕ) → flat_map f (range_with_len 0 n) ++ f n
    ≡ flat_map f (range_with_len 0 (n + 1))
blocks-more f n =
    let last : n ≡ 0 + n = omega arith in
    flat_map_more f [] (range_with_len 0 n) n ∙ ap (flat_map f) ((λ p. range_with_len 0 n ++ last p ∷ [])
    ∙ sym (push-range 0 n))
