use Rattle.std.proofs.Common.{rules, FitsSigned, to_z, of_z, ◌≡◌, ℕ, ◌<◌, length, get_or, set, ap, sym, subst, ◌∙◌, arith, ⊎_elim, pos, ◌+ℤ◌, ◌*ℤ◌}
use Rattle.std.specs.Int.{w64, w128}
use Rattle.std.proofs.lemmas.Bool.{cases_lt}
use Rattle.std.proofs.lemmas.Int.{to_z-of_z}
use Rattle.std.proofs.lemmas.List.{get_or_default, get_or-set_same, get_or-set_other, length-set}
use Rattle.nomos_simplex.specs.Exchange.{coef_at}
use Rattle.nomos_simplex.specs.Nearest.{line_at}
use Rattle.nomos_simplex.specs.declared.table.TableLine.{TableLine}
use Rattle.nomos_simplex.proofs.ClassLemmas.{no_line}
use Rattle.nomos_simplex.proofs.NumberLemmas.{number_back}
use Rattle.nomos_simplex.proofs.turning.raise.Goals as goal

-- one more is risen
pub loop-i-preserved : goal.loop-i-preserved
loop-i-preserved c =
    let over = c.loop-i.over in
    let i = c.loop-i.i in
    let lines = c.args.lines.now in
    let line = c.index-lines-i.result in
    let so_far = c.loop-i.invariant in
    let within : i < length over = omega arith in
    let fits : FitsSigned w128 (get_or over i (pos 0)) = search rules in
    let fits_made : FitsSigned w128 c.risen.result = search rules in
    let z = to_z w128 (of_z w128 c.risen.result) in
    let at : get_or lines i line ≡ line_at lines i = get_or_default lines i line no_line
    (omega (arith, c.requires.long, so_far.long, within)) in
    let coefs = c.as_slice.ensures ∙ ap (λ (l : TableLine). l.coefs) at in
    let numbers = c.requires.lines i no_line (omega (arith, c.requires.long, so_far.long, within)) in
    let before = to_z-of_z w128 (get_or over i (pos 0)) fits ∙ so_far.rest i (omega arith) in
    let coef = ap (λ cs. to_z w128 (of_z w128 (get_or cs c.args.column (pos 0)))) coefs
    ∙ number_back (coef_at c.args.column (line_at lines i))
    (numbers.coefs c.args.column (pos 0) (c.requires.column i no_line
    (omega (arith, c.requires.long, so_far.long, within)))) in
    let made : z ≡ get_or c.args.over.now i (pos 0) +ℤ coef_at c.args.column (line_at lines i) *ℤ to_z w64
    (of_z w64 c.args.rise) =
    to_z-of_z w128 c.risen.result fits_made ∙ c.risen.ensures
    ∙ (λ p. before p +ℤ coef p *ℤ to_z w64 (of_z w64 c.args.rise)) in
    record {
      long = length-set over i z ∙ so_far.long;
      done = λ k h. ⊎_elim
          (λ less. get_or-set_other over i k z (pos 0) (λ same. absurd (omega (arith, less, same)))
          ∙ so_far.done k less)
          (λ more. let here : i ≡ k = omega (arith, more, h) in subst (λ n. get_or (set over i z) n (pos 0) ≡
          get_or c.args.over.now n (pos 0) +ℤ coef_at c.args.column (line_at lines n) *ℤ to_z w64
          (of_z w64 c.args.rise))
          here (get_or-set_same over i z (pos 0) within ∙ made))
          (cases_lt k i);
      rest = λ k h. get_or-set_other over i k z (pos 0) (λ same. absurd (omega (arith, h, same)))
          ∙ so_far.rest k (omega (arith, h));
    }
