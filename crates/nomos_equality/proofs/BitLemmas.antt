-- Lemmas of rows of bits.
use Rattle.std.proofs.Common.{◌≡◌, ◌<◌, ◌≤◌, ◌==◌, ◌*◌, ◌/◌, ◌%◌, ◌^◌, ◌⊎◌, inl, inr, ℕ, zero, suc, true, List, [], ◌∷◌, ◌++◌, length, Contains, get_or, set, Some, slice_get, bit_or, refl, ap, sym, subst, ◌∙◌, arith}
use Rattle.std.specs.Global.{Vec}
use Rattle.std.specs.Int.{w64}
use mathlib.Core.Logic.{⊎_elim}
use Rattle.std.proofs.lemmas.Bool.Decides.{eqb_tells}
use Rattle.std.proofs.lemmas.List.{get_or-set_same, get_or-set_other}
use Rattle.std.proofs.lemmas.List.Elements.{Contains-append_left, Contains-push}
use Rattle.std.proofs.lemmas.Nat.Bits.{bit_at_set_other}
use Rattle.nomos_ir.specs.declared.ids.TypeId.{TypeId}
use Rattle.nomos_equality.specs.mirror.PairTables.{has_bit, AreAmong, HasSameBits, HasWords, SetsOne, SetsPair}

-- a bit that is set in a word with one more bit was set, or is that one
pub has_bit-with : (n k i : ℕ) → k < 64 → has_bit (bit_or n (1 * 2 ^ k % 2 ^ 64)) i ≡ true
    → (has_bit n i ≡ true) ⊎ (i ≡ k)
has_bit-with n k i within is =
    ⊎_elim (λ e. inr e.1) (λ e. inl (sym (ap (λ b. b == 1) (bit_at_set_other w64 n k within i e.1)) ∙ is))
    (eqb_tells i k)

-- a row in which one word has one more bit
pub sets-one : (row : List ℕ) (right word : ℕ) → right / 64 < length row
    → ((i : ℕ) → i < 64 → has_bit word i ≡ true → (has_bit (get_or row (right / 64) 0) i ≡ true) ⊎ (i ≡ right % 64))
    → SetsOne right row (set row (right / 64) word)
sets-one row right word inside with r is =
    ⊎_elim
    (λ e.
    let there : get_or (set row (right / 64) word) (r / 64) 0 ≡ word =
    ap (λ j. get_or (set row (right / 64) word) j 0) e.1 ∙ get_or-set_same row (right / 64) word 0 inside in
    elim (with (r % 64) (omega arith) (sym (ap (λ w. has_bit w (r % 64)) there) ∙ is)) [
      | inl h ↦ inl (ap (λ j. has_bit (get_or row j 0) (r % 64)) e.1 ∙ h)
      | inr h ↦ inr (let place : r / 64 ≡ right / 64 = e.1 in omega (arith, place, h))
    ])
    (λ e. inl (sym (ap (λ w. has_bit w (r % 64)) (get_or-set_other row (right / 64) (r / 64) word 0 e.1)) ∙ is))
    (eqb_tells (r / 64) (right / 64))

-- ---- rows

pub get-set : {X : Type 0} (xs : List X) (i : ℕ) (x : X) → i < length xs → slice_get (set xs i x) i ≡ Some x
get-set [] i x inside = absurd (omega (arith, inside))
get-set (y ∷ xs) zero x inside = refl
get-set (y ∷ xs) (suc i) x inside = get-set xs i x (omega (arith, inside))

-- fewer words
pub fewer-words : (rows : List (Vec ℕ)) (l count words : ℕ) → count ≤ words → HasWords rows l words
    → HasWords rows l count
fewer-words rows l count words less there = (there.0, there.1, omega (arith, less, there.2))

-- the pairs whose bits are set are among the list and one more
pub among-more : (old mid new : List (Vec ℕ)) (pairs made : List (TypeId × TypeId)) (left right : TypeId)
    → AreAmong old pairs → HasSameBits old mid → SetsPair left.0 right.0 mid new → made ≡ pairs ++ (left, right) ∷ []
    → AreAmong new made
among-more old mid new pairs made left right among first sets told l r is =
    let by : Contains (pairs ++ (left, right) ∷ []) (record { 0 = l }, record { 0 = r }) =
    elim (sets l r is) [
      | inl h ↦ Contains-append_left pairs ((left, right) ∷ []) _ (among l r (sym (first l r) ∙ h))
      | inr h ↦
          subst (λ (k : ℕ). Contains (pairs ++ (left, right) ∷ []) (record { 0 = k }, record { 0 = r })) (sym h.0)
          (subst (λ (k : ℕ). Contains (pairs ++ (left, right) ∷ []) (left, record { 0 = k })) (sym h.1)
          (Contains-push pairs (left, right)))
    ] in
    subst (λ (ps : List (TypeId × TypeId)). Contains ps (record { 0 = l }, record { 0 = r })) (sym told) by
