-- Lines, coefficient by coefficient.
use Rattle.std.proofs.Common.{◌≡◌, ℕ, zero, suc, ◌+◌, ◌-◌, ◌/◌, ◌<◌, ◌≤◌, map, drop, List, [], ◌∷◌, ◌++◌, length, get_or, take, refl, ap, sym, subst, ◌∙◌, arith, ℤ, pos, negsuc, neg_ℤ, ◌+ℤ◌, ◌*ℤ◌, ◌-ℤ◌, ◌<ℤ◌, unsigned_abs, add-one, set}
use Rattle.std.specs.Prelude.{slice_set, int_div}
use Rattle.std.proofs.lemmas.List.Elements.{All-map, All-weaker}
use Rattle.std.proofs.lemmas.Int.{ints}
use Rattle.std.proofs.lemmas.List.{length-map, get_or-map}
use Rattle.std.proofs.Math.Nat.{div-le_self}
use Rattle.std.proofs.Math.IntN.{zero-*ℤ, *ℤ-zero, +ℤ_assoc}
use Rattle.nomos_forms.proofs.WholeLaws.{count_times_lt}
use Rattle.nomos_forms.specs.declared.row_list.RowList.{RowList}
use Rattle.nomos_simplex.specs.Tables.{bound_of, sum_at}
use Rattle.nomos_simplex.specs.Divisors.{common, in_lowest_terms}
use Rattle.nomos_simplex.specs.Exchange.{coef_at, eliminated, put_into}
use Rattle.nomos_simplex.specs.Sizes.{IsNumber, HasNumbers}
use Rattle.nomos_simplex.specs.declared.table.TableLine.{TableLine}
use Rattle.nomos_simplex.specs.mirror.Keeping.{sum_of, over_by, over_of}
use Rattle.nomos_simplex.proofs.DivisorLemmas.{lowest_is, lowest_times}

-- in place: the first columns are made, those behind are as they were
pub made_at : (p g : ℤ) (as' cs : List ℤ) (k : ℕ) (d : ℤ) → k < length as' → length as' ≡ length cs →
    get_or (eliminated p g (take k as') (take k cs) ++ drop k as') k d ≡ get_or as' k d
made_at p g [] cs k d h w = absurd (omega arith)
made_at p g (a ∷ as') [] k d h w = absurd (omega arith)
made_at p g (a ∷ as') (c ∷ cs) zero d h w = refl
made_at p g (a ∷ as') (c ∷ cs) (suc k) d h w = made_at p g as' cs k d (omega arith) (omega arith)

pub made_more : (p g : ℤ) (as' cs : List ℤ) (k : ℕ) → k < length as' → length as' ≡ length cs →
    set (eliminated p g (take k as') (take k cs) ++ drop k as') k (p *ℤ get_or as' k (pos 0) -ℤ g *ℤ get_or cs k
    (pos 0)) ≡ eliminated p g (take (k + 1) as') (take (k + 1) cs) ++ drop (k + 1) as'
made_more p g [] cs k h w = absurd (omega arith)
made_more p g (a ∷ as') [] k h w = absurd (omega arith)
made_more p g (a ∷ as') (c ∷ cs) zero h w = refl
made_more p g (a ∷ as') (c ∷ cs) (suc k) h w = rw add-one (ap (λ xs. (p *ℤ a -ℤ g *ℤ c) ∷ xs) (rw add-one at
    (made_more p g as' cs k (omega arith) (omega arith))))

-- where nothing changes
pub made_same : (p g : ℤ) (as' cs : List ℤ) (k : ℕ) → k < length as' → length as' ≡ length cs → p ≡ pos 1 →
    get_or cs k (pos 0) ≡ pos 0 → eliminated p g (take k as') (take k cs) ++ drop k as' ≡ eliminated p g (take (k + 1)
    as') (take (k + 1) cs) ++ drop (k + 1) as'
made_same p g [] cs k h w e z = absurd (omega arith)
made_same p g (a ∷ as') [] k h w e z = absurd (omega arith)
made_same p g (a ∷ as') (c ∷ cs) zero h w e z = λ i. once a (g *ℤ c) (ap (λ x. g *ℤ x) z ∙ *ℤ-zero g) i ∷ as'
  where
    less_nothing : (x y : ℤ) → y ≡ pos 0 → x ≡ pos 1 *ℤ x -ℤ y
    less_nothing x y f = omega (arith, ints)

    once : (x y : ℤ) → y ≡ pos 0 → x ≡ p *ℤ x -ℤ y
    once x y f = less_nothing x y f ∙ ap (λ q. q *ℤ x -ℤ y) (sym e)
made_same p g (a ∷ as') (c ∷ cs) (suc k) h w e z = rw add-one (ap (λ xs. (p *ℤ a -ℤ g *ℤ c) ∷ xs) (rw add-one at
    (made_same p g as' cs k (omega arith) (omega arith) e z)))

-- and over places where nothing changes
abbrev pub made_up_to : ℤ → ℤ → List ℤ → List ℤ → ℕ → List ℤ
made_up_to p g as' cs k = eliminated p g (take k as') (take k cs) ++ drop k as'

made_past : (p g : ℤ) (as' cs : List ℤ) (k count : ℕ) → k + count ≤ length as' → length as' ≡ length cs → p ≡ pos 1
    → ((j : ℕ) → k ≤ j → j < k + count → get_or cs j (pos 0) ≡ pos 0)
    → made_up_to p g as' cs k ≡ made_up_to p g as' cs (k + count)
made_past p g as' cs k zero h w e zeros = ap (made_up_to p g as' cs) (omega arith)
made_past p g as' cs k (suc count) h w e zeros =
    made_past p g as' cs k count (omega arith) w e (λ j from below. zeros j from (omega (arith, below)))
    ∙ made_same p g as' cs (k + count) (omega arith) w e (zeros (k + count) (omega arith) (omega arith))
    ∙ ap (made_up_to p g as' cs) (omega arith)

pub made_skipped : (p g : ℤ) (as' cs : List ℤ) (k n : ℕ) → k ≤ n → n ≤ length as' → length as' ≡ length cs
    → p ≡ pos 1 → ((j : ℕ) → k ≤ j → j < n → get_or cs j (pos 0) ≡ pos 0)
    → made_up_to p g as' cs k ≡ made_up_to p g as' cs n
made_skipped p g as' cs k n order within w e zeros =
    let sum : k + (n - k) ≡ n = omega (arith, order) in
    made_past p g as' cs k (n - k) (omega (arith, sum, within)) w e
    (λ j from below. zeros j from (omega (arith, sum, below)))
    ∙ ap (made_up_to p g as' cs) sum

pub made_all : (p g : ℤ) (as' cs : List ℤ) (k : ℕ) → length as' ≤ k → length as' ≡ length cs →
    eliminated p g (take k as') (take k cs) ++ drop k as' ≡ eliminated p g as' cs
made_all p g [] [] zero h w = refl
made_all p g [] [] (suc k) h w = refl
made_all p g [] (c ∷ cs) k h w = absurd (omega arith)
made_all p g (a ∷ as') cs zero h w = absurd (omega arith)
made_all p g (a ∷ as') [] (suc k) h w = absurd (omega arith)
made_all p g (a ∷ as') (c ∷ cs) (suc k) h w =
    ap (λ xs. (p *ℤ a -ℤ g *ℤ c) ∷ xs) (made_all p g as' cs k (omega arith) (omega arith))

pub length-eliminated : (p g : ℤ) (as' cs : List ℤ) → length as' ≡ length cs → length (eliminated p g as' cs) ≡ length
    as'
length-eliminated p g [] cs h = refl
length-eliminated p g (a ∷ as') [] h = absurd (omega arith)
length-eliminated p g (a ∷ as') (c ∷ cs) h = ap suc (length-eliminated p g as' cs (omega arith))

pub over_all : {X : Type 0} (f : X → X) (xs : List X) (i : ℕ) → length xs ≤ i → map f (take i xs) ++ drop i xs ≡ map f
    xs
over_all f [] zero h = refl
over_all f [] (suc i) h = refl
over_all f (x ∷ xs) zero h = absurd (omega arith)
over_all f (x ∷ xs) (suc i) h = ap (λ ys. f x ∷ ys) (over_all f xs i (omega arith))

-- ---- a line without the entering variable
eliminated_none : (p g : ℤ) (as' cs : List ℤ) → length as' ≡ length cs → g ≡ pos 0 → eliminated p g as' cs ≡ map
    (λ a. p *ℤ a) as'
eliminated_none p g [] cs h e = refl
eliminated_none p g (a ∷ as') [] h e = absurd (omega arith)
eliminated_none p g (a ∷ as') (c ∷ cs) h e =
    let none : g *ℤ c ≡ pos 0 = ap (λ z. z *ℤ c) e ∙ zero-*ℤ c in
    λ i. less_none (p *ℤ a) (g *ℤ c) none i ∷ eliminated_none p g as' cs (omega arith) e i
  where
    less_none : (x y : ℤ) → y ≡ pos 0 → x -ℤ y ≡ x
    less_none x y h = omega (arith, ints)

pub set_same : {X : Type 0} (xs : List X) (k : ℕ) (x : X) → k < length xs → x ≡ get_or xs k x → set xs k x ≡ xs
set_same [] k x h e = absurd (omega arith)
set_same (y ∷ ys) zero x h e = λ i. e i ∷ ys
set_same (y ∷ ys) (suc k) x h e = ap (λ zs. y ∷ zs) (set_same ys k x (omega arith) e)

pub skipped : (j : ℕ) (left line : TableLine) → j < length left.coefs → length line.coefs ≡ length left.coefs →
    pos 0 <ℤ coef_at j left → pos 0 <ℤ line.times → coef_at j line ≡ pos 0 →
    common (unsigned_abs line.times) line.coefs ≡ 1 → in_lowest_terms (put_into j left line) ≡ line
skipped j left line low width over positive none lowest =
    let p = coef_at j left in
    let g = coef_at j line in
    let n = unsigned_abs p in
    let p_is : p ≡ pos n = count_is p over in
    let n_over : 0 < n = omega (arith, ints, p_is) in
    let all = map (λ a. p *ℤ a) line.coefs in
    let place : g *ℤ left.times ≡ get_or all j (g *ℤ left.times) = ap (λ z. z *ℤ left.times) none ∙ zero-*ℤ left.times
    ∙ sym (get_or-map (λ a. p *ℤ a) line.coefs j (pos 0) (g *ℤ left.times) (omega (arith, width))
    ∙ ap (λ z. p *ℤ z) none ∙ *ℤ-zero p) in
    let coefs : slice_set (eliminated p g line.coefs left.coefs) j (g *ℤ left.times) ≡ all = ap (λ xs. slice_set xs j
    (g *ℤ left.times)) (eliminated_none p g line.coefs left.coefs width none)
    ∙ set_same all j (g *ℤ left.times) (omega (arith, length-map line.coefs (λ a. p *ℤ a), width)) place in
    (λ i. in_lowest_terms (record line {
      times = p_is i *ℤ line.times;
      coefs = (coefs
          ∙ ap (λ z. map (λ a. z *ℤ a) line.coefs) p_is) i;
    })) ∙ lowest_times n line n_over positive lowest
  where
    count_is : (z : ℤ) → pos 0 <ℤ z → z ≡ pos (unsigned_abs z)
    count_is (pos n) h = refl
    count_is (negsuc n) h = absurd (omega (arith, ints))

-- ---- sums, one place more
pub sum_of_more : (bs cs : List ℤ) (k : ℕ) → k < length bs → k < length cs →
    sum_of (take (k + 1) bs) (take (k + 1) cs) ≡ sum_of (take k bs) (take k cs) +ℤ get_or cs k (pos 0) *ℤ get_or bs k
    (pos 0)
sum_of_more [] cs k h i = absurd (omega arith)
sum_of_more (b ∷ bs) [] k h i = absurd (omega arith)
sum_of_more (b ∷ bs) (c ∷ cs) zero h i = one_only (c *ℤ b)
  where
    one_only : (z : ℤ) → z +ℤ pos 0 ≡ pos 0 +ℤ z
    one_only z = omega (arith, ints)
sum_of_more (b ∷ bs) (c ∷ cs) (suc k) h i = rw add-one (ap (λ z. c *ℤ b +ℤ z) (rw add-one at (sum_of_more bs cs k
    (omega arith) (omega arith))) ∙ sym (+ℤ_assoc (c *ℤ b) (sum_of (take k bs) (take k cs)) (get_or cs k (pos 0) *ℤ
    get_or bs k (pos 0))))

-- the sum by the bounds of variables
pub sum_of_bounds : (y : ℕ → ℤ) (vs : List ℕ) (cs : List ℤ) → sum_of (map y vs) cs ≡ sum_at y vs cs
sum_of_bounds y [] cs = refl
sum_of_bounds y (v ∷ vs) [] = refl
sum_of_bounds y (v ∷ vs) (c ∷ cs) = ap (λ z. c *ℤ y v +ℤ z) (sum_of_bounds y vs cs)

pub over_by_bounds : (rows : RowList) (nonbasic : List ℕ) (bounds : List ℤ) (line : TableLine) →
    bounds ≡ map (bound_of rows) nonbasic → over_by rows bounds line ≡ over_of rows nonbasic line
over_by_bounds rows nonbasic bounds line e =
    ap (λ bs. over_by rows bs line) e
    ∙ ap (λ z. z -ℤ line.times *ℤ bound_of rows line.basic) (sum_of_bounds (bound_of rows) nonbasic line.coefs)

pub product_over : (a b : ℤ) → pos 0 <ℤ a → pos 0 <ℤ b → pos 0 <ℤ (a *ℤ b)
product_over (pos n) b p q =
    subst (λ k. k <ℤ (pos n *ℤ b)) (*ℤ-zero (pos n)) (count_times_lt n (pos 0) b (omega (arith, ints, p)) q)
product_over (negsuc n) b p q = absurd (omega (arith, ints, p))

-- ---- small numbers stay small in lowest terms
quotient_small : (g : ℕ) (z : ℤ) → IsNumber z → IsNumber (int_div z (pos g))
quotient_small g (pos n) h = let less = div-le_self n g in omega (arith, h, less)
quotient_small g (negsuc n) h =
    let less = div-le_self (suc n) g in
    let size = abs_turned (suc n / g) in
    omega (arith, h, less, size)
  where
    abs_turned : (k : ℕ) → unsigned_abs (neg_ℤ (pos k)) ≡ k
    abs_turned zero = refl
    abs_turned (suc k) = refl

pub lowest_small : (line : TableLine) → pos 0 <ℤ line.times → HasNumbers line → HasNumbers (in_lowest_terms line)
lowest_small line over h =
    let g = common (unsigned_abs line.times) line.coefs in
    subst HasNumbers (sym (lowest_is line g over refl)) (record {
      times = quotient_small g line.times h.times;
      coefs = All-map IsNumber (λ c. int_div c (pos g)) line.coefs (All-weaker IsNumber
          (λ c. IsNumber (int_div c (pos g))) (quotient_small g) line.coefs h.coefs);
    })
