-- Weights in order of their variables.
use Rattle.std.proofs.Common.{◌≡◌, ℕ, zero, suc, ◌<◌, ◌≤◌, Bool, true, false, cond, List, [], ◌∷◌, length, get_or, drop, All, refl, ap, sym, ◌∙◌, arith, ℤ, pos, unsigned_abs, int_lt}
use Rattle.std.specs.Prelude.{nat_lt, insert, if◌then◌else◌}
use Rattle.std.proofs.lemmas.Bool.Decides.{nat_tests}
use Rattle.std.proofs.lemmas.List.Elements.{All-head, All-tail, All-cons, All-nil}
use Rattle.nomos_simplex.specs.Exits.{with_weight, weights_below}

lower_true : (m n : ℕ) → m < n → nat_lt m n ≡ true
lower_true m n h = grind (arith, nat_tests)

not_lower : (m n : ℕ) → n ≤ m → nat_lt m n ≡ false
not_lower m n h = grind (arith, nat_tests)

pub with_weight_is : (w : ℕ × ℕ) (xs : List (ℕ × ℕ)) (k : ℕ) → k ≤ length xs → ((i : ℕ) → i < k →
    (get_or xs i (0, 0)).0 < w.0) → (k < length xs → w.0 ≤ (get_or xs k (0, 0)).0) → insert xs k w ≡ with_weight w xs
with_weight_is w [] zero h before there = refl
with_weight_is w [] (suc k) h before there = absurd (omega arith)
with_weight_is w (x ∷ xs) zero h before there = ap (λ b. cond b (x ∷ with_weight w xs) (w ∷ x ∷ xs)) (sym
    (not_lower x.0 w.0 (there (omega arith))))
with_weight_is w (x ∷ xs) (suc k) h before there =
    ap (λ ys. x ∷ ys) (with_weight_is w xs k (omega arith) (λ i j. before (suc i) (omega arith)) (λ i. there
    (omega arith)))
    ∙ ap (λ b. cond b (x ∷ with_weight w xs) (w ∷ x ∷ xs)) (sym (lower_true x.0 w.0 (before zero (omega arith))))

pub weights_step : (vs : List ℕ) (cs : List ℤ) (k : ℕ) → k < length vs → k < length cs → weights_below (drop k vs)
    (drop k cs) ≡ (if int_lt (get_or cs k (pos 0)) (pos 0) then with_weight (
      get_or vs k 0,
      unsigned_abs (get_or cs k
          (pos 0)),
    ) (weights_below (drop (suc k) vs) (drop (suc k) cs)) else weights_below (drop (suc k) vs) (drop
    (suc k) cs))
weights_step [] cs k h i = absurd (omega arith)
weights_step (v ∷ vs) [] k h i = absurd (omega arith)
weights_step (v ∷ vs) (c ∷ cs) zero h i = refl
weights_step (v ∷ vs) (c ∷ cs) (suc k) h i = weights_step vs cs k (omega arith) (omega arith)

-- ---- what holds of each weight
choose_all : {X : Type 0} (P : X → Type 0) (b : Bool) (xs ys : List X) → All P xs → All P ys → All P (cond b xs ys)
choose_all P true xs ys h i = h
choose_all P false xs ys h i = i

pub with_weight_all : (P : ℕ × ℕ → Type 0) (w : ℕ × ℕ) (xs : List (ℕ × ℕ)) → P w → All P xs → All P (with_weight w xs)
with_weight_all P w [] p all = All-cons P w [] p all
with_weight_all P w (x ∷ xs) p all = choose_all P (nat_lt x.0 w.0) (x ∷ with_weight w xs) (w ∷ x ∷ xs)
    (All-cons P x (with_weight w xs) (All-head P x xs all) (with_weight_all P w xs p (All-tail P x xs all)))
    (All-cons P w (x ∷ xs) p all)

pub weights_all : (Q : ℕ → Type 0) (vs : List ℕ) (cs : List ℤ) → All Q vs → All (λ w. Q w.0) (weights_below vs cs)
weights_all Q [] cs all = All-nil (λ w. Q w.0)
weights_all Q (v ∷ vs) [] all = All-nil (λ w. Q w.0)
weights_all Q (v ∷ vs) (c ∷ cs) all =
    let P : ℕ × ℕ → Type 0 = λ w. Q w.0 in
    let rest = weights_all Q vs cs (All-tail Q v vs all) in
    choose_all P (int_lt c (pos 0)) (with_weight (v, unsigned_abs c) (weights_below vs cs)) (weights_below vs cs)
    (with_weight_all P (v, unsigned_abs c) (weights_below vs cs) (All-head Q v vs all) rest) rest

-- ---- one column more
pub weights_lower : (vs : List ℕ) (cs : List ℤ) (k a b : ℕ) (ws : List (ℕ × ℕ)) → k < length vs → k < length cs →
    a ≡ k → b ≡ suc k → ws ≡ weights_below (drop b vs) (drop b cs) → int_lt (get_or cs k (pos 0)) (pos 0) ≡ true →
    with_weight (get_or vs k 0, unsigned_abs (get_or cs k (pos 0))) ws ≡ weights_below (drop a vs) (drop a cs)
weights_lower vs cs k a b ws h i ea eb is low =
    let rest = weights_below (drop (suc k) vs) (drop (suc k) cs) in
    let w : ℕ × ℕ = (get_or vs k 0, unsigned_abs (get_or cs k (pos 0))) in
    ap (with_weight w) (is ∙ λ p. weights_below (drop (eb p) vs) (drop (eb p) cs))
    ∙ ap (λ t. cond t (with_weight w rest) rest) (sym low) ∙ sym (weights_step vs cs k h i)
    ∙ λ p. weights_below (drop (sym ea p) vs) (drop (sym ea p) cs)

pub weights_same : (vs : List ℕ) (cs : List ℤ) (k a b : ℕ) (ws : List (ℕ × ℕ)) → k < length vs → k < length cs →
    a ≡ k → b ≡ suc k → ws ≡ weights_below (drop b vs) (drop b cs) → int_lt (get_or cs k (pos 0)) (pos 0) ≡ false →
    ws ≡ weights_below (drop a vs) (drop a cs)
weights_same vs cs k a b ws h i ea eb is low =
    let rest = weights_below (drop (suc k) vs) (drop (suc k) cs) in
    let w : ℕ × ℕ = (get_or vs k 0, unsigned_abs (get_or cs k (pos 0))) in
    is ∙ (λ p. weights_below (drop (eb p) vs) (drop (eb p) cs)) ∙ ap (λ t. cond t (with_weight w rest) rest) (sym low)
    ∙ sym (weights_step vs cs k h i) ∙ λ p. weights_below (drop (sym ea p) vs) (drop (sym ea p) cs)
