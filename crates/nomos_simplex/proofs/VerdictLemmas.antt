-- The verdict of a line: its weights add up to what the line says of the variables.
use Rattle.std.proofs.Common.{◌≡◌, ◌==◌, ℕ, zero, suc, ◌+◌, ◌-◌, ◌<◌, ◌≤◌, Bool, true, false, cond, List, [], ◌∷◌, length, map, get_or, ap, sym, refl, subst, ◌∙◌, arith, ℤ, pos, negsuc, ◌+ℤ◌, ◌-ℤ◌, ◌*ℤ◌, neg_ℤ, ◌≤ℤ◌, ◌<ℤ◌, unsigned_abs, All, Option, Some, None, ⊎_elim}
use Rattle.std.specs.Prelude.{int_lt, nat_lt, nat_le, slice_get}
use Rattle.std.specs.List.{range_with_len}
use Rattle.std.proofs.lemmas.Int.{ints}
use Rattle.std.proofs.lemmas.Bool.{cond-true, cond-false, le-leb, lt-leb, cases_lt, ne_eqb, eq-eqb}
use Rattle.std.proofs.lemmas.List.Elements.{All-nil, All-cons, All-head, All-tail, Contains-get_or}
use Rattle.std.proofs.lemmas.Option.{slice_get-get_or}
use Rattle.std.proofs.Math.IntN.{*ℤ-zero, *ℤ_comm}
use borrow.Author.Differences.{le_out, lt-false}
use Rattle.nomos_forms.specs.Refuting.{coef_in, least_in, weighted, IsOneOf}
use Rattle.nomos_forms.specs.declared.row.Row.{Row}
use Rattle.nomos_forms.specs.declared.row_list.RowList.{RowList}
use Rattle.nomos_forms.specs.declared.verdict.Of.TheVariants as of
use Rattle.nomos_forms.specs.declared.verdict.Of.{Of}
use Rattle.nomos_forms.specs.declared.verdict.Weight.{Weight}
use Rattle.nomos_forms.proofs.WholeLaws.{neg_times}
use Rattle.nomos_simplex.specs.Exits.{with_weight, weights_below, row_or_star, of_variable, weight_of}
use Rattle.nomos_simplex.specs.Tables.{least_or_zero, bound_of, sum_at, HoldsAt, Holds, first_table}
use Rattle.nomos_simplex.specs.declared.table.TableLine.{TableLine}
use Rattle.nomos_simplex.proofs.FirstLemmas.{All-lines_from}
use Rattle.nomos_simplex.proofs.SignLemmas.{abs_over, one_times}

-- ---- what a variable stands for
least_of_test : (v : ℕ) (t : Bool) (o : Option Row) →
    least_in (cond t (of.Star v) (row_or_star v o)) ≡ cond t (pos 0) (least_or_zero o)
least_of_test v true o = refl
least_of_test v false None = refl
least_of_test v false (Some row) = refl

pub least-of_variable : (rows : RowList) (v : ℕ) → least_in (of_variable rows v) ≡ bound_of rows v
least-of_variable rows v = least_of_test v (nat_le v rows.stars) (slice_get rows.rows (v - rows.stars - 1))

pub star-of_variable : (rows : RowList) (v : ℕ) → v ≤ rows.stars → of_variable rows v ≡ of.Star v
star-of_variable rows v h =
    cond-true (nat_le v rows.stars) (of.Star v) (row_or_star v (slice_get rows.rows (v - rows.stars - 1)))
    (le-leb v rows.stars h)

pub row-of_variable : (rows : RowList) (k : ℕ) (e : Row) → k < length rows.rows →
    of_variable rows (rows.stars + 1 + k) ≡ of.Row (get_or rows.rows k e)
row-of_variable rows k e h =
    let v = rows.stars + 1 + k in
    let place : v - rows.stars - 1 ≡ k = omega arith in
    cond-false (nat_le v rows.stars) (of.Star v) (row_or_star v (slice_get rows.rows (v - rows.stars - 1)))
    (lt-leb v rows.stars (omega arith))
    ∙ ap (λ o. row_or_star v o) (ap (slice_get rows.rows) place ∙ slice_get-get_or rows.rows k e h)

pub variable-is_one_of : (rows : RowList) (v : ℕ) → 1 ≤ v → v ≤ rows.stars + length rows.rows →
    IsOneOf rows.stars rows.rows (of_variable rows v)
variable-is_one_of rows v low high = ⊎_elim
    (λ more. let k = v - rows.stars - 1 in
    let place : rows.stars + 1 + k ≡ v = omega arith in
    let row : Row = record { coefs = []; least = pos 0 } in
    let in' : k < length rows.rows = omega arith in
    subst (λ n. IsOneOf rows.stars rows.rows (of_variable rows n)) place
    (subst (IsOneOf rows.stars rows.rows) (sym (row-of_variable rows k row in'))
    (Contains-get_or rows.rows k row in')))
    (λ few. subst (IsOneOf rows.stars rows.rows) (sym (star-of_variable rows v few)) (low, few))
    (cases_lt rows.stars v)

-- ---- weights in order
put_first : (a b c d e : ℤ) → c ≡ b +ℤ e → d ≡ a +ℤ e → b +ℤ d ≡ a +ℤ c
put_first a b c d e h i = omega (arith, ints)

pub weighted-with_weight : (rows : RowList) (part : Of → ℤ) (w : ℕ × ℕ) (ws : List (ℕ × ℕ)) →
    weighted part (map (weight_of rows) (with_weight w ws)) ≡ pos w.1 *ℤ part (of_variable rows w.0) +ℤ weighted part
    (map (weight_of rows) ws)
weighted-with_weight rows part w [] = refl
weighted-with_weight rows part w (x ∷ xs) = by_test (weighted-with_weight rows part w xs) (nat_lt x.0 w.0)
  where
    by_test : weighted part (map (weight_of rows) (with_weight w xs)) ≡ pos w.1 *ℤ part
        (of_variable rows w.0) +ℤ weighted part (map (weight_of rows) xs) → (t : Bool) →
        weighted part (map (weight_of rows) (cond t (x ∷ with_weight w xs) (w ∷ x ∷ xs))) ≡ pos w.1 *ℤ part
        (of_variable rows w.0) +ℤ weighted part (map (weight_of rows) (x ∷ xs))
    by_test rest true =
        put_first (pos w.1 *ℤ part (of_variable rows w.0)) (pos x.1 *ℤ part (of_variable rows x.0))
        (weighted part (map (weight_of rows) (x ∷ xs))) (weighted part (map (weight_of rows) (with_weight w xs)))
        (weighted part (map (weight_of rows) xs)) refl rest
    by_test rest false = refl

pub All-with_weight : (P : Weight → Type 0) (rows : RowList) (w : ℕ × ℕ) (ws : List (ℕ × ℕ)) → P (weight_of rows w) →
    All P (map (weight_of rows) ws) → All P (map (weight_of rows) (with_weight w ws))
All-with_weight P rows w [] one rest = All-cons P (weight_of rows w) [] one rest
All-with_weight P rows w (x ∷ xs) one rest =
    by_test (All-with_weight P rows w xs one (All-tail P (weight_of rows x) (map (weight_of rows) xs) rest))
    (nat_lt x.0 w.0)
  where
    by_test : All P (map (weight_of rows) (with_weight w xs)) → (t : Bool) →
        All P (map (weight_of rows) (cond t (x ∷ with_weight w xs) (w ∷ x ∷ xs)))
    by_test after true =
        All-cons P (weight_of rows x) (map (weight_of rows) (with_weight w xs))
        (All-head P (weight_of rows x) (map (weight_of rows) xs) rest) after
    by_test after false = All-cons P (weight_of rows w) (map (weight_of rows) (x ∷ xs)) one rest

pub length-with_weight : (w : ℕ × ℕ) (ws : List (ℕ × ℕ)) → length (with_weight w ws) ≡ suc (length ws)
length-with_weight w [] = refl
length-with_weight w (x ∷ xs) = by_test (length-with_weight w xs) (nat_lt x.0 w.0)
  where
    by_test : length (with_weight w xs) ≡ suc (length xs) → (t : Bool) →
        length (cond t (x ∷ with_weight w xs) (w ∷ x ∷ xs)) ≡ suc (length (x ∷ xs))
    by_test rest true = ap suc rest
    by_test rest false = refl

pub length-weights_below : (vs : List ℕ) (cs : List ℤ) → length (weights_below vs cs) ≤ length vs
length-weights_below [] cs = omega arith
length-weights_below (v ∷ vs) [] = omega arith
length-weights_below (v ∷ vs) (c ∷ cs) = by_test (length-weights_below vs cs) (int_lt c (pos 0))
  where
    by_test : length (weights_below vs cs) ≤ length vs → (t : Bool) →
        length (cond t (with_weight (v, unsigned_abs c) (weights_below vs cs)) (weights_below vs cs)) ≤ suc (length vs)
    by_test rest true = omega (arith, length-with_weight (v, unsigned_abs c) (weights_below vs cs))
    by_test rest false = omega arith

-- ---- the nonbasic variables of a line without a coefficient over 0
abs_below : (c : ℤ) → c ≤ℤ pos 0 → pos (unsigned_abs c) ≡ neg_ℤ c
abs_below (pos zero) h = refl
abs_below (pos (suc c)) h = absurd (omega (arith, le_out (pos (suc c)) (pos 0) h))
abs_below (negsuc c) h = refl

zero_between : (c : ℤ) → c ≤ℤ pos 0 → int_lt c (pos 0) ≡ false → c ≡ pos 0
zero_between c h e = omega (arith, ints, le_out c (pos 0) h, lt-false c (pos 0) e)

less_each : (a b r s : ℤ) → a ≡ neg_ℤ b → r ≡ neg_ℤ s → a +ℤ r ≡ neg_ℤ (b +ℤ s)
less_each a b r s h i = omega (arith, ints)

less_none : (b r s : ℤ) → b ≡ pos 0 → r ≡ neg_ℤ s → r ≡ neg_ℤ (b +ℤ s)
less_none b r s h i = omega (arith, ints)

pub weighted-weights_below : (rows : RowList) (part : Of → ℤ) (vs : List ℕ) (cs : List ℤ) → All (λ c. c ≤ℤ pos 0) cs →
    weighted part (map (weight_of rows) (weights_below vs cs)) ≡ neg_ℤ (sum_at (λ v. part (of_variable rows v)) vs cs)
weighted-weights_below rows part [] cs h = refl
weighted-weights_below rows part (v ∷ vs) [] h = refl
weighted-weights_below rows part (v ∷ vs) (c ∷ cs) h =
    by_test (weighted-weights_below rows part vs cs (All-tail (λ c. c ≤ℤ pos 0) c cs h)) (int_lt c (pos 0)) refl
  where
    low : c ≤ℤ pos 0
    low = All-head (λ c. c ≤ℤ pos 0) c cs h

    by_test : weighted part (map (weight_of rows) (weights_below vs cs)) ≡ neg_ℤ
        (sum_at (λ v. part (of_variable rows v)) vs cs) → (t : Bool) → int_lt c (pos 0) ≡ t →
        weighted part
        (map (weight_of rows)
        (cond t (with_weight (v, unsigned_abs c) (weights_below vs cs)) (weights_below vs cs))) ≡ neg_ℤ
        (c *ℤ part (of_variable rows v) +ℤ sum_at (λ v. part (of_variable rows v)) vs cs)
    by_test rest true e = weighted-with_weight rows part (v, unsigned_abs c) (weights_below vs cs)
        ∙ less_each (pos (unsigned_abs c) *ℤ part (of_variable rows v)) (c *ℤ part (of_variable rows v))
        (weighted part (map (weight_of rows) (weights_below vs cs))) (sum_at (λ v. part (of_variable rows v)) vs cs)
        (ap (λ x. x *ℤ part (of_variable rows v)) (abs_below c low) ∙ neg_times c (part (of_variable rows v))) rest
    by_test rest false e =
        less_none (c *ℤ part (of_variable rows v)) (weighted part (map (weight_of rows) (weights_below vs cs)))
        (sum_at (λ v. part (of_variable rows v)) vs cs)
        (ap (λ x. x *ℤ part (of_variable rows v)) (zero_between c low e) ∙ *ℤ_comm (pos 0) (part (of_variable rows v))
        ∙ *ℤ-zero (part (of_variable rows v))) rest

-- what holds of each weighted variable
pub All-weights_below : (P : Weight → Type 0) (rows : RowList) (vs : List ℕ) (cs : List ℤ) → length cs ≡ length vs →
    ((k : ℕ) → k < length vs → int_lt (get_or cs k (pos 0)) (pos 0) ≡ true →
    P (weight_of rows (get_or vs k 0, unsigned_abs (get_or cs k (pos 0))))) →
    All P (map (weight_of rows) (weights_below vs cs))
All-weights_below P rows [] cs w h = All-nil P
All-weights_below P rows (v ∷ vs) [] w h = absurd (omega arith)
All-weights_below P rows (v ∷ vs) (c ∷ cs) w h =
    by_test (All-weights_below P rows vs cs (omega arith) (λ k l e. h (suc k) (omega arith) e)) (int_lt c (pos 0)) refl
  where
    by_test : All P (map (weight_of rows) (weights_below vs cs)) → (t : Bool) → int_lt c (pos 0) ≡ t →
        All P (map
        (weight_of rows) (cond t (with_weight (v, unsigned_abs c) (weights_below vs cs)) (weights_below vs cs)))
    by_test rest true e = All-with_weight P rows (v, unsigned_abs c) (weights_below vs cs) (h zero (omega arith) e) rest
    by_test rest false e = rest

minus_is : (a b c d : ℤ) → a ≡ c → b ≡ neg_ℤ d → a +ℤ b ≡ c -ℤ d
minus_is a b c d h i = omega (arith, ints)

-- all weights together: times the basic variable, less the sum
pub weighted_line : (rows : RowList) (part : Of → ℤ) (vs : List ℕ) (line : TableLine) → pos 0 <ℤ line.times →
    All (λ c. c ≤ℤ pos 0) line.coefs →
    weighted part
    (map (weight_of rows)
    (with_weight (line.basic, unsigned_abs line.times) (weights_below vs line.coefs))) ≡ line.times *ℤ part
    (of_variable rows line.basic) -ℤ sum_at (λ v. part (of_variable rows v)) vs line.coefs
weighted_line rows part vs line over none =
    weighted-with_weight rows part (line.basic, unsigned_abs line.times) (weights_below vs line.coefs)
    ∙ minus_is (pos (unsigned_abs line.times) *ℤ part (of_variable rows line.basic))
    (weighted part (map (weight_of rows) (weights_below vs line.coefs)))
    (line.times *ℤ part (of_variable rows line.basic)) (sum_at (λ v. part (of_variable rows v)) vs line.coefs)
    (ap (λ x. x *ℤ part (of_variable rows line.basic)) (abs_over line.times over))
    (weighted-weights_below rows part vs line.coefs none)

-- ---- what each variable has of one star, as a valuation
unit_past : (z : ℕ → ℤ) (star a n : ℕ) (cs : List ℤ) → star < a →
    ((v : ℕ) → a ≤ v → v < a + n → z v ≡ cond (v == star) (pos 1) (pos 0)) → sum_at z (range_with_len a n) cs ≡ pos 0
unit_past z star a zero cs less h = refl
unit_past z star a (suc n) [] less h = refl
unit_past z star a (suc n) (c ∷ cs) less h =
    let none : z a ≡ pos 0 = h a (omega arith) (omega arith)
    ∙ ap (λ t. cond t (pos 1) (pos 0)) (ne_eqb a star (λ e. omega arith)) in
    let rest = unit_past z star (a + 1) n cs (omega arith) (λ v i j. h v (omega arith) (omega arith)) in
    (λ p. c *ℤ none p +ℤ rest p) ∙ nothing c
  where
    nothing : (c : ℤ) → c *ℤ pos 0 +ℤ pos 0 ≡ pos 0
    nothing c = omega (arith, ints)

pub unit_sum : (z : ℕ → ℤ) (star a n : ℕ) (cs : List ℤ) → a ≤ star → star < a + n → length cs ≡ n →
    ((v : ℕ) → a ≤ v → v < a + n → z v ≡ cond (v == star) (pos 1) (pos 0)) →
    sum_at z (range_with_len a n) cs ≡ get_or cs (star - a) (pos 0)
unit_sum z star a zero cs i j w h = absurd (omega arith)
unit_sum z star a (suc n) [] i j w h = absurd (omega arith)
unit_sum z star a (suc n) (c ∷ cs) i j w h = ⊎_elim
    (λ less. let none : z a ≡ pos 0 = h a (omega arith) (omega arith)
    ∙ ap (λ t. cond t (pos 1) (pos 0)) (ne_eqb a star (λ e. omega arith)) in
    let rest =
    unit_sum z star (a + 1) n cs (omega arith) (omega arith) (omega arith)
    (λ v k l. h v (omega arith) (omega arith)) in
    let place : star - a ≡ suc (star - (a + 1)) = omega arith in
    (λ p. c *ℤ none p +ℤ rest p) ∙ only_rest c (get_or cs (star - (a + 1)) (pos 0))
    ∙ ap (λ k. get_or (c ∷ cs) k (pos 0)) (sym place))
    (λ more. let one : z a ≡ pos 1 = h a (omega arith) (omega arith)
    ∙ ap (λ t. cond t (pos 1) (pos 0)) (eq-eqb a star (omega arith)) in
    let rest = unit_past z star (a + 1) n cs (omega arith) (λ v k l. h v (omega arith) (omega arith)) in
    let place : star - a ≡ 0 = omega arith in
    (λ p. c *ℤ one p +ℤ rest p) ∙ only_first c ∙ ap (λ k. get_or (c ∷ cs) k (pos 0)) (sym place))
    (cases_lt a star)
  where
    only_rest : (c r : ℤ) → c *ℤ pos 0 +ℤ r ≡ r
    only_rest c r = omega (arith, ints)

    only_first : (c : ℤ) → c *ℤ pos 1 +ℤ pos 0 ≡ c
    only_first c = omega (arith, ints)

-- it is true of the first table
pub unit_holds : (rows : RowList) (star : ℕ) → 1 ≤ star → star ≤ rows.stars →
    All (λ row. length row.coefs ≡ rows.stars) rows.rows →
    Holds (λ v. coef_in star (of_variable rows v)) (first_table rows)
unit_holds rows star low high width =
    let z = λ (v : ℕ). coef_in star (of_variable rows v) in
    All-lines_from (HoldsAt z (range_with_len 1 rows.stars)) (rows.stars + 1) rows.rows
    (λ k e h.
    let cs = (get_or rows.rows k e).coefs in
    one_times (z (rows.stars + 1 + k)) (sum_at z (range_with_len 1 rows.stars) cs)
    (ap (coef_in star) (row-of_variable rows k e h)
    ∙ sym (unit_sum z star 1 rows.stars cs low (omega arith) (width k e h)
    (λ v i j. ap (coef_in star) (star-of_variable rows v (omega arith))))))
