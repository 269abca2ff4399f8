-- What the least run answers: amounts that meet the rows with a proof that the goal is least, or a verdict.
use Rattle.std.proofs.Common.{◌≡◌, ℕ, ◌*◌, ◌/◌, ◌<◌, ◌≤◌, ◌^◌, Bool, true, false, cond, ◌&&◌, List, length, map, get_or, refl, ap, sym, subst, ◌∙◌, arith, ℤ, pos, negsuc, neg_ℤ, ◌+ℤ◌, ◌-ℤ◌, ◌*ℤ◌, ◌≤ℤ◌, unsigned_abs, int_lt, All, None}
use Rattle.std.specs.Prelude.{nat_lt, nat_le}
use Rattle.std.specs.List.{range_with_len, list_all}
use Rattle.std.specs.Int.{◌∣◌}
use Rattle.std.proofs.lemmas.Int.{ints}
use Rattle.std.proofs.lemmas.List.{get_or-map, get_or_default, length-map}
use Rattle.std.proofs.lemmas.List.Elements.{All-map, All-weaker}
use borrow.Author.Differences.{le_out, at_most_in, lt-false}
use Rattle.nomos_forms.specs.Bounds.{IsForm, IsFound, IsVerdict}
use Rattle.nomos_forms.specs.Linear.{dot, form_value}
use Rattle.nomos_forms.specs.Meeting.{MeetsRows}
use Rattle.nomos_forms.specs.Refuting.{coef_in, least_in, weighted, IsOneOf, Refutes}
use Rattle.nomos_forms.specs.declared.form.Form.{Form}
use Rattle.nomos_forms.specs.declared.found.Found.{Found}
use Rattle.nomos_forms.specs.declared.row_list.RowList.{RowList}
use Rattle.nomos_forms.specs.declared.verdict.Of.{Of}
use Rattle.nomos_forms.specs.declared.verdict.Verdict.{Verdict}
use Rattle.nomos_forms.specs.declared.verdict.Weight.{Weight}
use Rattle.nomos_forms.proofs.WholeLaws.{times_swap, count_cancel}
use Rattle.nomos_simplex.specs.Exits.{fraction_of, fractions, denominator, common_denominator, amounts_over, found_or_large, weight_of, of_variable}
use Rattle.nomos_simplex.specs.LeastRun.{LeastRun, weights_above, proof_of, is_total, least_or_large}
use Rattle.nomos_simplex.specs.Nearest.{lowering}
use Rattle.nomos_simplex.specs.PivotRun.{answer_to}
use Rattle.nomos_simplex.specs.ShowsLeast.{ShowsLeast, IsProof}
use Rattle.nomos_simplex.specs.Tables.{bound_of, sum_at}
use Rattle.nomos_simplex.specs.declared.solved.Proof.{Proof}
use Rattle.nomos_simplex.specs.declared.solved.Solved.{Solved}
use Rattle.nomos_simplex.specs.declared.solved.Solved.TheVariants as solved
use Rattle.nomos_simplex.specs.declared.solved.SolvedLeast.{SolvedLeast}
use Rattle.nomos_simplex.specs.declared.solved.SolvedLeast.TheVariants as least
use Rattle.nomos_simplex.specs.declared.solved.Stop.TheVariants as stop
use Rattle.nomos_simplex.specs.declared.solved.Stop.{Stop}
use Rattle.nomos_simplex.specs.declared.table.TableLine.{TableLine}
use Rattle.nomos_simplex.specs.declared.table.Table.{Table}
use Rattle.nomos_simplex.proofs.AmountLemmas.{value_of, times_product, product_positive, values_hold, value-nonbasic, amount_of, amounts_scaled, common-divided_by_each, dot_scaled}
use Rattle.nomos_simplex.proofs.CountLemmas.{All-from_map}
use Rattle.nomos_simplex.proofs.ExitLemmas.{IsRightFor, found_low, map_twice, range_within, abs_of_below}
use Rattle.nomos_simplex.proofs.LoweringLemmas.{IsAimed, aimed, line-is_line}
use Rattle.nomos_simplex.proofs.OppositeLemmas.{abs_neg, neg_neg}
use Rattle.nomos_simplex.proofs.PlaceLemmas.{none_passes}
use Rattle.nomos_simplex.proofs.RunLaws.{answer-refutes}
use Rattle.nomos_simplex.proofs.SignLemmas.{abs_over, abs_positive}
use Rattle.nomos_simplex.proofs.SumLemmas.{sum_neg, sum_times_all}
use Rattle.nomos_simplex.proofs.TableLaws.{are_over_zero}
use Rattle.nomos_simplex.proofs.VariableLemmas.{nonbasic-is_variable}
use Rattle.nomos_simplex.proofs.VerdictLemmas.{least-of_variable, star-of_variable, variable-is_one_of, All-weights_below, length-weights_below, weighted-weights_below, unit_holds, unit_sum}

-- ---- the coefficients of the goal's line at the end
not_below : (table : Table) (line : TableLine) → length line.coefs ≡ length table.nonbasic → lowering table line ≡ None
    →
    All (λ c. pos 0 ≤ℤ c) line.coefs
not_below table line w e k d l =
    let no = none_passes (λ j. int_lt (get_or line.coefs j (pos 0)) (pos 0)) (λ j. get_or table.nonbasic j 0)
    (length table.nonbasic) e k (omega arith) in
    subst (λ c. pos 0 ≤ℤ c) (get_or_default line.coefs k (pos 0) d l)
    (at_most_in (pos 0) (get_or line.coefs k (pos 0)) (lt-false (get_or line.coefs k (pos 0)) (pos 0) no))

neg_not_over : (c : ℤ) → pos 0 ≤ℤ c → neg_ℤ c ≤ℤ pos 0
neg_not_over c h = at_most_in (neg_ℤ c) (pos 0) (omega (arith, ints, le_out (pos 0) c h))

-- the weights come to what the goal's line says
weighted_above : (rows : RowList) (part : Of → ℤ) (vs : List ℕ) (cs : List ℤ) → All (λ c. pos 0 ≤ℤ c) cs →
    weighted part (map (weight_of rows) (weights_above vs cs)) ≡ sum_at (λ v. part (of_variable rows v)) vs cs
weighted_above rows part vs cs h =
    let y = λ (v : ℕ). part (of_variable rows v) in
    weighted-weights_below rows part vs (map neg_ℤ cs)
    (All-map (λ c. c ≤ℤ pos 0) neg_ℤ cs (All-weaker (λ c. pos 0 ≤ℤ c) (λ c. neg_ℤ c ≤ℤ pos 0) neg_not_over cs h))
    ∙ ap neg_ℤ (sum_neg y vs cs) ∙ neg_neg (sum_at y vs cs)

-- ---- the total
abbrev total_amounts : RowList → Table → List ℕ
total_amounts rows table = amounts_over (common_denominator 1 (fractions rows table)) (fractions rows table)

-- the goal's value, without its written part
value_scaled : (rows : RowList) (goal : Form) (table : Table) (line : TableLine) → IsForm rows.stars goal →
    IsAimed rows goal table line →
    line.times *ℤ dot goal.coefs (total_amounts rows table) ≡ pos (common_denominator 1 (fractions rows table)) *ℤ
    sum_at (bound_of rows) table.nonbasic line.coefs
value_scaled rows goal table line f a =
    let t = a.of_rows in
    let m = times_product table.lines in
    let u = common_denominator 1 (fractions rows table) in
    let y = value_of m rows table in
    let vs = range_with_len 1 rows.stars in
    let first = t.true_of_rows y (values_hold (bound_of rows) rows table t.each_once (are_over_zero rows table t)) in
    let bounds = sum_at (bound_of rows) table.nonbasic line.coefs in
    let sum = a.holds y first ∙ sum_times_all (bound_of rows) y (pos m) table.nonbasic line.coefs
    (value-nonbasic m (bound_of rows) rows table t.each_once) in
    let divided =
    All-from_map (λ f. denominator f ∣ u) (fraction_of rows table) vs
    (common-divided_by_each 1 (fractions rows table)) in
    let scaled =
    dot_scaled y (amount_of u rows table) (pos u) (pos m) vs goal.coefs
    (λ i d h. amounts_scaled rows table u (get_or vs i d) (are_over_zero rows table t) a.none
    (range_within rows.stars i d h) (divided i d h))
    ∙ ap (λ xs. pos m *ℤ dot goal.coefs xs)
    (sym (map_twice (λ (f : ℕ × ℕ). u * f.0 / f.1) (fraction_of rows table) vs)) in
    let value = dot goal.coefs (total_amounts rows table) in
    count_cancel m (line.times *ℤ value) (pos u *ℤ bounds) (product_positive table.lines (are_over_zero rows table t))
    (times_swap (pos m) line.times value ∙ ap (λ z. line.times *ℤ z) (sym scaled)
    ∙ times_swap line.times (pos u) (sum_at y vs goal.coefs) ∙ ap (λ z. pos u *ℤ z) sum
    ∙ times_swap (pos u) (pos m) bounds)

total_is : (z : ℤ) → is_total z ≡ true → pos (unsigned_abs z) ≡ z
total_is (pos z) e = refl
total_is (negsuc z) e = cc

less_written : (total value written : ℤ) → total ≡ value +ℤ written → total -ℤ written ≡ value
less_written total value written h = omega (arith, ints)

-- ---- the proof
module _ (rows : RowList) (goal : Form) (table : Table) (line : TableLine) (f : IsForm rows.stars goal)
    (a : IsAimed rows goal table line) (low : lowering table line ≡ None) where
  high : All (λ c. pos 0 ≤ℤ c) line.coefs
  high = not_below table line a.numbers.fits.width low

  each_weight : (P : Weight → Type 0) →
      ((k : ℕ) → k < length table.nonbasic → 0 < unsigned_abs (get_or line.coefs k (pos 0)) →
      P (weight_of rows (get_or table.nonbasic k 0, unsigned_abs (get_or line.coefs k (pos 0))))) →
      All P (map (weight_of rows) (weights_above table.nonbasic line.coefs))
  each_weight P h = All-weights_below P rows table.nonbasic (map neg_ℤ line.coefs)
      (length-map line.coefs neg_ℤ ∙ a.numbers.fits.width)
      (λ k l e. let c = get_or line.coefs k (pos 0) in
      let is : get_or (map neg_ℤ line.coefs) k (pos 0) ≡ neg_ℤ c =
      get_or-map neg_ℤ line.coefs k (pos 0) (pos 0) (omega (arith, a.numbers.fits.width)) in
      let size : unsigned_abs (get_or (map neg_ℤ line.coefs) k (pos 0))
      ≡ unsigned_abs c = ap unsigned_abs is ∙ abs_neg c in
      subst (λ n. P (weight_of rows (get_or table.nonbasic k 0, n))) (sym size)
      (h k l (subst (λ n. 0 < n) size (abs_of_below (get_or (map neg_ℤ line.coefs) k (pos 0)) e))))

  pub proof-is_proof : (total : ℕ) → IsProof (proof_of rows table line total)
  proof-is_proof total =
      let own = line-is_line rows goal table line a in
      record {
        count = omega (
          arith,
          length-map (weights_above table.nonbasic line.coefs) (weight_of rows),
          length-weights_below table.nonbasic (map neg_ℤ line.coefs),
          rows.few_stars,
          a.of_rows.stars,
        );
        scale = own.times;
        times = each_weight (λ w. w.times < 2 ^ 62) (λ k l p. own.coefs k (pos 0) (omega (arith, own.width)));
      }

  pub proof-shows : (total : ℕ) →
      pos total ≡ form_value (total_amounts rows table) (common_denominator 1 (fractions rows table)) goal →
      ShowsLeast rows.rows goal (common_denominator 1 (fractions rows table)) (proof_of rows table line total)
  proof-shows total e =
      let u = common_denominator 1 (fractions rows table) in
      let over = a.numbers.fits.over in
      record {
        scale = abs_positive line.times over;
        positive = each_weight (λ w. 0 < w.times) (λ k l p. p);
        of = each_weight (λ w. IsOneOf (length goal.coefs) rows.rows w.of)
            (λ k l p. let v = nonbasic-is_variable rows table a.of_rows.each_once k 0 l in
            subst (λ n. IsOneOf n rows.rows (of_variable rows (get_or table.nonbasic k 0))) (sym f.width)
            (variable-is_one_of rows (get_or table.nonbasic k 0) v.0 v.1));
        stars = λ star from to.
            let y = λ (v : ℕ). coef_in star (of_variable rows v) in
            let most : star ≤ rows.stars = omega (arith, f.width) in
            let first = unit_holds rows star from most (λ k d l. (rows.each k d l).width) in
            let sum = unit_sum y star 1 rows.stars goal.coefs from (omega arith) f.width
            (λ v i j. ap (coef_in star) (star-of_variable rows v (omega arith))) in
            weighted_above rows (coef_in star) table.nonbasic line.coefs high ∙ sym (a.holds y first)
            ∙ (λ p. sym (abs_over line.times over) p *ℤ sum p);
        total = ap (λ z. pos u *ℤ z)
            (weighted_above rows least_in table.nonbasic line.coefs high
            ∙ (λ p. sum_at (λ v. least-of_variable rows v p) table.nonbasic line.coefs))
            ∙ sym (value_scaled rows goal table line f a)
            ∙ (λ p. sym (abs_over line.times over) p *ℤ sym (less_written (pos total)
            (dot goal.coefs (total_amounts rows table)) (pos u *ℤ goal.plus) e) p);
      }

-- ---- what an answer says is right
abbrev pub IsRightLeast : RowList → Form → SolvedLeast → Type 0
IsRightLeast rows goal (least.Found f p) =
    IsFound rows.stars f × MeetsRows f.stars f.unit rows.rows × IsProof p × ShowsLeast rows.rows goal f.unit p
IsRightLeast rows goal (least.Refuted v) = IsVerdict v × Refutes rows.stars rows.rows v
IsRightLeast rows goal (least.Unsolved s) = Unit {0}

found_is : (g f : Found) (s : Stop) (t : Bool) → cond t (solved.Found g) (solved.Unsolved s) ≡ solved.Found f → g ≡ f
found_is g f s true e = cc
found_is g f s false e = cc

least_right : (rows : RowList) (goal : Form) (table : Table) (line : TableLine) (pivots : ℕ) (f : Found) (t : Bool) →
    (t ≡ true → IsRightLeast rows goal (least.Found f
    (proof_of rows table line (unsigned_abs (form_value f.stars f.unit goal))))) →
    IsRightLeast rows goal (cond t
    (least.Found f (proof_of rows table line (unsigned_abs (form_value f.stars f.unit goal))))
    (least.Unsolved (stop.Large pivots)))
least_right rows goal table line pivots f true h = h refl
least_right rows goal table line pivots f false h = tt

end_right : (rows : RowList) (goal : Form) (pivots : ℕ) (table : Table) (line : TableLine) (s : Solved) →
    IsForm rows.stars goal → IsAimed rows goal table line → lowering table line ≡ None →
    found_or_large pivots (fractions rows table) ≡ s →
    IsRightLeast rows goal (least_or_large pivots rows goal table line s)
end_right rows goal pivots table line (solved.Found f) form a low e =
    let right = subst (IsRightFor rows) e (found_low pivots rows table a.of_rows a.none) in
    let fs = fractions rows table in
    let u = common_denominator 1 fs in
    let is = found_is (record { stars = amounts_over u fs; unit = u }) f (stop.Large pivots)
    (nat_le u (2 ^ 31) && list_all (λ x. nat_lt x (2 ^ 62)) (amounts_over u fs)) e in
    least_right rows goal table line pivots f (is_total (form_value f.stars f.unit goal))
    (λ total. let value = form_value f.stars f.unit goal in (
      right.1,
      right.0,
      proof-is_proof rows goal table line form a low (unsigned_abs value),
      subst (λ n. ShowsLeast rows.rows goal n (proof_of rows table line (unsigned_abs value))) (ap (λ g. g.unit) is)
          (proof-shows rows goal table line form a low (unsigned_abs value) (total_is value total
          ∙ ap (λ g. form_value g.stars g.unit goal) (sym is))),
    ))
end_right rows goal pivots table line (solved.Refuted v) form a low e =
    let right = subst (IsRightFor rows) e (found_low pivots rows table a.of_rows a.none) in (right.1, right.0)
end_right rows goal pivots table line (solved.Unsolved s) form a low e = tt

-- the answer of the least run
pub least-is_right : (rows : RowList) (goal : Form) (answer : SolvedLeast) → IsForm rows.stars goal →
    LeastRun rows goal answer → IsRightLeast rows goal answer
least-is_right rows goal answer form (LeastRun.refuted v e) =
    let both = answer-refutes rows v e in (both.1, both.0)
least-is_right rows goal answer form (LeastRun.stopped s e) = tt
least-is_right rows goal answer form (LeastRun.large_goal pivots table ends e) = tt
least-is_right rows goal answer form (LeastRun.ends pivots table line l e) =
    end_right rows goal pivots table line (found_or_large pivots (fractions rows table)) form
    (aimed rows goal pivots table line form l) e refl
least-is_right rows goal answer form (LeastRun.pivots_made table line i j left l x) = tt
least-is_right rows goal answer form (LeastRun.large pivots table line i j left l x most e) = tt

-- ---- the total is the goal's value

abbrev HasTotal : Form → SolvedLeast → Type 0
HasTotal goal (least.Found f p) = form_value f.stars f.unit goal ≡ pos p.total
HasTotal goal (least.Refuted v) = Unit {0}
HasTotal goal (least.Unsolved s) = Unit {0}

total-where : (rows : RowList) (goal : Form) (table : Table) (line : TableLine) (pivots : ℕ) (f : Found) (t : Bool) →
    is_total (form_value f.stars f.unit goal) ≡ t → HasTotal goal (cond t
    (least.Found f (proof_of rows table line (unsigned_abs (form_value f.stars f.unit goal))))
    (least.Unsolved (stop.Large pivots)))
total-where rows goal table line pivots f true e = sym (total_is (form_value f.stars f.unit goal) e)
total-where rows goal table line pivots f false e = tt

end-total : (rows : RowList) (goal : Form) (pivots : ℕ) (table : Table) (line : TableLine) (s : Solved) →
    HasTotal goal (least_or_large pivots rows goal table line s)
end-total rows goal pivots table line (solved.Found f) =
    total-where rows goal table line pivots f (is_total (form_value f.stars f.unit goal)) refl
end-total rows goal pivots table line (solved.Refuted v) = tt
end-total rows goal pivots table line (solved.Unsolved s) = tt

answer-total : (rows : RowList) (goal : Form) (answer : SolvedLeast) → LeastRun rows goal answer → HasTotal goal answer
answer-total rows goal answer (LeastRun.refuted v e) = tt
answer-total rows goal answer (LeastRun.stopped s e) = tt
answer-total rows goal answer (LeastRun.large_goal pivots table ends e) = tt
answer-total rows goal answer (LeastRun.ends pivots table line l e) =
    end-total rows goal pivots table line (found_or_large pivots (fractions rows table))
answer-total rows goal answer (LeastRun.pivots_made table line i j left l x) = tt
answer-total rows goal answer (LeastRun.large pivots table line i j left l x most e) = tt

pub least-total : (rows : RowList) (goal : Form) (f : Found) (proof : Proof) →
    LeastRun rows goal (least.Found f proof) → form_value f.stars f.unit goal ≡ pos proof.total
least-total rows goal f proof run = answer-total rows goal (least.Found f proof) run

-- ---- a verdict is that of the pivot run

abbrev IsPivots : RowList → SolvedLeast → Type 0
IsPivots rows (least.Refuted v) = answer_to rows ≡ solved.Refuted v
IsPivots rows (least.Found f p) = Unit {0}
IsPivots rows (least.Unsolved s) = Unit {0}

large-pivots : (rows : RowList) (goal : Form) (table : Table) (line : TableLine) (pivots : ℕ) (f : Found) (t : Bool) →
    IsPivots rows (cond t
    (least.Found f (proof_of rows table line (unsigned_abs (form_value f.stars f.unit goal))))
    (least.Unsolved (stop.Large pivots)))
large-pivots rows goal table line pivots f true = tt
large-pivots rows goal table line pivots f false = tt

end-pivots : (rows : RowList) (goal : Form) (pivots : ℕ) (table : Table) (line : TableLine) (f : Found) (t : Bool) →
    IsPivots rows
    (least_or_large pivots rows goal table line (cond t (solved.Found f) (solved.Unsolved (stop.Large pivots))))
end-pivots rows goal pivots table line f true =
    large-pivots rows goal table line pivots f (is_total (form_value f.stars f.unit goal))
end-pivots rows goal pivots table line f false = tt

answer-pivots : (rows : RowList) (goal : Form) (answer : SolvedLeast) → LeastRun rows goal answer → IsPivots rows answer
answer-pivots rows goal answer (LeastRun.refuted v e) = e
answer-pivots rows goal answer (LeastRun.stopped s e) = tt
answer-pivots rows goal answer (LeastRun.large_goal pivots table ends e) = tt
answer-pivots rows goal answer (LeastRun.ends pivots table line l e) =
    let fs = fractions rows table in
    let u = common_denominator 1 fs in
    end-pivots rows goal pivots table line (record { stars = amounts_over u fs; unit = u })
    (nat_le u (2 ^ 31) && list_all (λ x. nat_lt x (2 ^ 62)) (amounts_over u fs))
answer-pivots rows goal answer (LeastRun.pivots_made table line i j left l x) = tt
answer-pivots rows goal answer (LeastRun.large pivots table line i j left l x most e) = tt

pub least-refuted : (rows : RowList) (goal : Form) (verdict : Verdict) → LeastRun rows goal (least.Refuted verdict) →
    answer_to rows ≡ solved.Refuted verdict
least-refuted rows goal verdict run = answer-pivots rows goal (least.Refuted verdict) run
