-- How far variables are over their bounds: how large that is, and how it changes with one bound.
use Rattle.std.proofs.Common.{◌≡◌, ℕ, ◌+◌, ◌-◌, ◌*◌, ◌<◌, ◌≤◌, ◌^◌, map, Bool, true, false, cond, List, [], ◌∷◌, length, get_or, set, ap, sym, refl, subst, ◌∙◌, arith, ℤ, pos, ◌+ℤ◌, ◌-ℤ◌, ◌*ℤ◌, unsigned_abs, All, Option, Some, None}
use Rattle.std.specs.Prelude.{nat_le, slice_get}
use Rattle.std.proofs.lemmas.Int.{ints}
use Rattle.std.proofs.lemmas.List.{set-get_or, ext_get_or, get_or-map, length-map}
use Rattle.std.proofs.lemmas.Option.{get_or_from_slice_get, slice_get_within}
use Rattle.std.proofs.lemmas.List.Elements.{All-head, All-tail}
use Rattle.nomos_forms.specs.Bounds.{IsSmall, IsRow}
use Rattle.nomos_forms.specs.declared.row.Row.{Row}
use Rattle.nomos_forms.specs.declared.row_list.RowList.{RowList}
use Rattle.nomos_simplex.specs.Exchange.{coef_at}
use Rattle.nomos_simplex.specs.Nearest.{line_at}
use Rattle.nomos_simplex.specs.Sizes.{IsNumber, IsLine}
use Rattle.nomos_simplex.specs.Tables.{least_or_zero, bound_of, sum_at}
use Rattle.nomos_simplex.specs.mirror.Keeping.{over_of}
use Rattle.nomos_simplex.specs.declared.table.TableLine.{TableLine}
use Rattle.nomos_simplex.proofs.ClassLemmas.{no_line}
use Rattle.nomos_simplex.proofs.NumberLemmas.{bounded_size, abs_sum}
use Rattle.nomos_simplex.proofs.SumLemmas.{sum_set, times_minus}

-- ---- sizes
least_small : (n : ℕ) (rows : List Row) (k : ℕ) → All (IsRow n) rows → IsSmall (least_or_zero (slice_get rows k))
least_small n rows k h = by_row (slice_get rows k) refl
  where
    by_row : (o : Option Row) → slice_get rows k ≡ o → IsSmall (least_or_zero o)
    by_row (Some row) e = subst (λ (r : Row). IsSmall r.least) (get_or_from_slice_get rows k row row e)
        (h k row (slice_get_within rows k row e)).least
    by_row None e = omega arith

pub bound_small : (rows : RowList) (v : ℕ) → IsSmall (bound_of rows v)
bound_small rows v = by_test (nat_le v rows.stars)
  where
    by_test : (t : Bool) → IsSmall (cond t (pos 0) (least_or_zero (slice_get rows.rows (v - rows.stars - 1))))
    by_test true = omega arith
    by_test false = least_small rows.stars rows.rows (v - rows.stars - 1) rows.each

sum_size : (y : ℕ → ℤ) (vs : List ℕ) (cs : List ℤ) → ((v : ℕ) → IsSmall (y v)) → All IsNumber cs →
    unsigned_abs (sum_at y vs cs) ≤ length cs * 2 ^ 107
sum_size y [] cs h n = omega arith
sum_size y (v ∷ vs) [] h n = omega arith
sum_size y (v ∷ vs) (c ∷ cs) h n =
    omega (
      arith,
      abs_sum (c *ℤ y v) (sum_at y vs cs),
      bounded_size c (y v) (All-head IsNumber c cs n) (h v),
      sum_size y vs cs h (All-tail IsNumber c cs n),
    )

pub over_size : (rows : RowList) (nonbasic : List ℕ) (n : ℕ) (line : TableLine) → IsLine n line → n ≤ 64 →
    unsigned_abs (over_of rows nonbasic line) ≤ 2 ^ 114
over_size rows nonbasic n line l few =
    let b = bound_of rows in
    omega (
      arith,
      ints,
      sum_size b nonbasic line.coefs (bound_small rows) l.coefs,
      bounded_size line.times (b line.basic) l.times (bound_small rows line.basic),
      l.width,
    )

-- ---- the variable of one column is another
difference : (s t c x y m : ℤ) → s +ℤ c *ℤ y ≡ t +ℤ c *ℤ x → c *ℤ (x -ℤ y) ≡ c *ℤ x -ℤ c *ℤ y →
    s -ℤ m ≡ t -ℤ m +ℤ c *ℤ (x -ℤ y)
difference s t c x y m e f = omega (arith, ints, e, f)

pub over_risen : (rows : RowList) (vs : List ℕ) (j v : ℕ) (line : TableLine) → j < length vs → j < length line.coefs →
    over_of rows (set vs j v) line ≡ over_of rows vs line +ℤ coef_at j line *ℤ
    (bound_of rows v -ℤ bound_of rows (get_or vs j 0))
over_risen rows vs j v line h i =
    let b = bound_of rows in
    let c = coef_at j line in
    let same = ap (sum_at b (set vs j v)) (set-get_or line.coefs j (pos 0)) in
    difference (sum_at b (set vs j v) line.coefs) (sum_at b vs line.coefs) c (b v) (b (get_or vs j 0))
    (line.times *ℤ b line.basic)
    (ap (λ z. z +ℤ c *ℤ b (get_or vs j 0)) (sym same) ∙ sum_set b vs line.coefs j v c h i)
    (times_minus c (b v) (b (get_or vs j 0)))

-- and of all lines
pub overs_risen : (rows : RowList) (vs : List ℕ) (j v : ℕ) (lines : List TableLine) (over after : List ℤ) (rise : ℤ) →
    j < length vs → All (λ line. j < length line.coefs) lines → over ≡ map (over_of rows vs) lines →
    length after ≡ length over → rise ≡ bound_of rows v -ℤ bound_of rows (get_or vs j 0) →
    ((i : ℕ) → i < length over → get_or after i (pos 0) ≡ get_or over i (pos 0) +ℤ coef_at j (line_at lines i) *ℤ rise)
    →
    after ≡ map (over_of rows (set vs j v)) lines
overs_risen rows vs j v lines over after rise h widths shows long is made =
    let count : length over ≡ length lines = ap length shows ∙ length-map lines (over_of rows vs) in
    ext_get_or (pos 0) after (map (over_of rows (set vs j v)) lines)
    (long ∙ count ∙ sym (length-map lines (over_of rows (set vs j v))))
    (λ i l.
    let within : i < length lines = omega (arith, l, long, count) in
    let line = line_at lines i in
    made i (omega (arith, l, long))
    ∙ (λ p. (ap (λ zs. get_or zs i (pos 0)) shows ∙ get_or-map (over_of rows vs) lines i no_line (pos 0) within) p +ℤ
    coef_at j line *ℤ is p)
    ∙ sym (over_risen rows vs j v line h (widths i no_line within))
    ∙ sym (get_or-map (over_of rows (set vs j v)) lines i no_line (pos 0) within))
