-- Variables are found by halving where they ascend, and one by one behind that.
use Rattle.std.proofs.Common.{◌≡◌, ◌≢◌, ◌<◌, ◌≤◌, ◌+◌, ◌-◌, ◌⊎◌, ℕ, zero, suc, Bool, true, false, cond, nat_lt, ltb-true, ltb-false, List, [], ◌∷◌, length, get_or, Some, None, refl, sym, ap, ◌∙◌, subst, arith, inl, inr, ne_eqb, eq-eqb}
use Rattle.std.proofs.lemmas.List.{get_or_default}
use Rattle.nomos_ir.specs.Bindings.{bound_to}
use Rattle.nomos_ir.specs.declared.ids.VarId.{VarId}
use Rattle.nomos_eval.specs.mirror.Ascending.{IsFirstAt, IsHigher, Rises, StandsNotBelow}

split-by : (i n : ℕ) (b : Bool) → nat_lt i n ≡ b → i ≤ n → (i < n) ⊎ (i ≡ n)
split-by i n true test le = inl (ltb-true i n test)
split-by i n false test le =
    let over = ltb-false i n test in
    inr (omega arith)

split : (i n : ℕ) → i ≤ n → (i < n) ⊎ (i ≡ n)
split i n le = split-by i n (nat_lt i n) refl le

-- of none it is known at once
pub rises-none : {X : Type 0} (pairs : List (VarId × X)) → Rises pairs 0
rises-none pairs = record { within = omega arith; lower = λ i j e f below inside. absurd (omega arith) }

-- one pair more, which is higher than the one before it
module _ {X : Type 0} (pairs : List (VarId × X)) (known : ℕ) (rises : Rises pairs known)
    (higher : IsHigher pairs known) where
  -- a pair before it is the last one that was known, or lower than that
  under_last : (i : ℕ) (e f : VarId × X) → i < known → (i < known - 1) ⊎ (i ≡ known - 1)
      → (get_or pairs i e).0.0 < (get_or pairs known f).0.0
  under_last i e f below (inl before) =
      let last = rises.lower i (known - 1) e f before (omega arith) in
      let next = higher.1 f f (omega arith) in
      omega arith
  under_last i e f below (inr same) =
      let next = higher.1 e f (omega arith) in
      let at : (get_or pairs i e).0.0 ≡ (get_or pairs (known - 1) e).0.0 = ap (λ n. (get_or pairs n e).0.0) same in
      omega arith

  lower_all : (i j : ℕ) (e f : VarId × X) → i < j → (j < known) ⊎ (j ≡ known)
      → (get_or pairs i e).0.0 < (get_or pairs j f).0.0
  lower_all i j e f below (inl inside) = rises.lower i j e f below inside
  lower_all i j e f below (inr same) =
      let P : ℕ → Type 0 = λ n. (get_or pairs i e).0.0 < (get_or pairs n f).0.0 in
      subst P (sym same) (under_last i e f (omega arith) (split i (known - 1) (omega arith)))

  pub rises-more : Rises pairs (known + 1)
  rises-more =
      record {
        within = omega (arith, higher.0);
        lower = λ i j e f below inside. lower_all i j e f below (split j known (omega arith));
      }

-- the variable stands not among none
pub not-below-none : {X : Type 0} (pairs : List (VarId × X)) (v : VarId) → StandsNotBelow pairs v 0
not-below-none pairs v k e below = absurd (omega arith)

-- the variables of so many first pairs are lower
abbrev pub AreLower : {X : Type 0} → List (VarId × X) → VarId → ℕ → Type 0
AreLower {X} pairs v n = (k : ℕ) (e : VarId × X) → k < n → (get_or pairs k e).0.0 < v.0

-- those of the pairs from a place on up to another one are higher
abbrev pub AreHigher : {X : Type 0} → List (VarId × X) → VarId → ℕ → ℕ → Type 0
AreHigher {X} pairs v n known = (k : ℕ) (e : VarId × X) → n ≤ k → k < known → v.0 < (get_or pairs k e).0.0

-- what is read between them tells more
module _ {X : Type 0} (pairs : List (VarId × X)) (known : ℕ) (v : VarId) (rises : Rises pairs known) (middle : ℕ)
    (x : VarId × X) (inside : middle < known) (read : x ≡ get_or pairs middle x) where
  at_middle : (e : VarId × X) → (get_or pairs middle e).0.0 ≡ x.0.0
  at_middle e =
      let within : middle < length pairs = omega (arith, rises.within) in
      ap (λ (p : VarId × X). p.0.0) (get_or_default pairs middle e x within ∙ sym read)

  pub middle-first : x.0.0 ≡ v.0 → IsFirstAt pairs v middle
  middle-first same =
      record {
        there = omega (arith, rises.within);
        here = λ e. at_middle e ∙ same;
        before = λ k e below.
            (let lower = rises.lower k middle e x below inside in
            let at = at_middle x in
            omega arith);
      }

  lower-upto : x.0.0 < v.0 → (k : ℕ) (e : VarId × X) → (k < middle) ⊎ (k ≡ middle) → (get_or pairs k e).0.0 < v.0
  lower-upto low k e (inl below) =
      let lower = rises.lower k middle e x below inside in
      let at = at_middle x in
      omega arith
  lower-upto low k e (inr same) =
      let at = at_middle e in
      let P : ℕ → Type 0 = λ n. (get_or pairs n e).0.0 < v.0 in
      subst P (sym same) (omega arith)

  pub middle-lower : x.0.0 < v.0 → AreLower pairs v (middle + 1)
  middle-lower low k e below = lower-upto low k e (split k middle (omega arith))

  higher-from : v.0 < x.0.0 → (k : ℕ) (e : VarId × X) → k < known → (middle < k) ⊎ (middle ≡ k)
      → v.0 < (get_or pairs k e).0.0
  higher-from high k e below (inl behind) =
      let higher = rises.lower middle k x e behind below in
      let at = at_middle x in
      omega arith
  higher-from high k e below (inr same) =
      let at = at_middle e in
      let P : ℕ → Type 0 = λ n. v.0 < (get_or pairs n e).0.0 in
      subst P same (omega arith)

  pub middle-higher : v.0 < x.0.0 → AreHigher pairs v middle known
  middle-higher high k e from below = higher-from high k e below (split middle k from)

apart : {X : Type 0} (pairs : List (VarId × X)) (v : VarId) (from to known : ℕ) (k : ℕ) (e : VarId × X) (b : Bool)
    → nat_lt k from ≡ b → AreLower pairs v from → AreHigher pairs v to known → to ≤ from → k < known
    → (get_or pairs k e).0.0 ≢ v.0
apart pairs v from to known k e true test lower higher met below =
    let low = lower k e (ltb-true k from test) in
    omega arith
apart pairs v from to known k e false test lower higher met below =
    let over = ltb-false k from test in
    let high = higher k e (omega arith) below in
    omega arith

-- where nothing is left between them, the variable is not there
pub halves-met : {X : Type 0} (pairs : List (VarId × X)) (v : VarId) (from to known : ℕ) → AreLower pairs v from
    → AreHigher pairs v to known → to ≤ from → StandsNotBelow pairs v known
halves-met pairs v from to known lower higher met k e below =
    apart pairs v from to known k e (nat_lt k from) refl lower higher met below

-- a pair more is another variable's, or the first of this one
module _ {X : Type 0} (pairs : List (VarId × X)) (v : VarId) (at : ℕ) (x : VarId × X) (inside : at < length pairs)
    (read : x ≡ get_or pairs at x) (before : StandsNotBelow pairs v at) where
  here_is : (e : VarId × X) → (get_or pairs at e).0.0 ≡ x.0.0
  here_is e = ap (λ (p : VarId × X). p.0.0) (get_or_default pairs at e x inside ∙ sym read)

  pub first-here : x.0.0 ≡ v.0 → IsFirstAt pairs v at
  first-here same = record { there = inside; here = λ e. here_is e ∙ same; before = before }

  not-upto : x.0.0 ≢ v.0 → (k : ℕ) (e : VarId × X) → (k < at) ⊎ (k ≡ at) → (get_or pairs k e).0.0 ≢ v.0
  not-upto other k e (inl below) = before k e below
  not-upto other k e (inr same) =
      λ is. other (sym (here_is e) ∙ ap (λ n. (get_or pairs n e).0.0) (sym same) ∙ is)

  pub not-here : x.0.0 ≢ v.0 → StandsNotBelow pairs v (at + 1)
  not-here other k e below = not-upto other k e (split k at (omega arith))

-- what the variable is bound to
pub first-bound : {X : Type 0} (pairs : List (VarId × X)) (v : VarId) (n : ℕ) (e : VarId × X) → IsFirstAt pairs v n
    → bound_to v.0 pairs ≡ Some (get_or pairs n e).1
first-bound [] v n e first = absurd (omega (arith, first.there))
first-bound (p ∷ pairs) v zero e first =
    ap (λ t. cond t (Some p.1) (bound_to v.0 pairs)) (eq-eqb p.0.0 v.0 (first.here p))
first-bound (p ∷ pairs) v (suc n) e first =
    let rest : IsFirstAt pairs v n = record {
      there = omega (arith, first.there);
      here = λ f. first.here f;
      before = λ k f below. first.before (suc k) f (omega arith);
    } in
    ap (λ t. cond t (Some p.1) (bound_to v.0 pairs)) (ne_eqb p.0.0 v.0 (first.before 0 p (omega arith)))
    ∙ first-bound pairs v n e rest

pub none-bound : {X : Type 0} (pairs : List (VarId × X)) (v : VarId) → StandsNotBelow pairs v (length pairs)
    → bound_to v.0 pairs ≡ None
none-bound [] v none = refl
none-bound (p ∷ pairs) v none =
    ap (λ t. cond t (Some p.1) (bound_to v.0 pairs)) (ne_eqb p.0.0 v.0 (none 0 p (omega arith)))
    ∙ none-bound pairs v (λ k e below. none (suc k) e (omega arith))
