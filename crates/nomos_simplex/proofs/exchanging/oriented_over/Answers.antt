use Rattle.std.proofs.Common.{rules, ◌≡◌, true, cond, pos, neg_ℤ, int_lt, get_or, FitsSigned, to_z, of_z, ap, sym, ◌∙◌}
use Rattle.std.specs.Int.{w128}
use Rattle.std.proofs.lemmas.Int.{to_z-of_z}
use Rattle.nomos_simplex.specs.Exchange.{coef_at}
use Rattle.nomos_simplex.specs.mirror.Keeping.{over_of}
use Rattle.nomos_simplex.specs.mirror.Opposite.{opposite_of, oriented_of}
use Rattle.nomos_simplex.proofs.KeepingLemmas.{opposite_over}
use Rattle.nomos_simplex.proofs.exchanging.oriented_over.Goals as goal

pub returns-then-as_slice-column-lt0-clause-value : goal.returns-then-as_slice-column-lt0-clause-value
returns-then-as_slice-column-lt0-clause-value c = λ rows nonbasic is.
    let line = c.args.line.now in
    let over = to_z-of_z w128 c.args.over c.ranges.over ∙ is in
    let fits : FitsSigned w128 c.opposite.result = search rules in
    let j = c.args.column in
    let fits_coef : FitsSigned w128 (coef_at j line) = search rules in
    let back = ap (λ xs. to_z w128 (of_z w128 (get_or xs j (pos 0)))) c.as_slice.ensures
    ∙ to_z-of_z w128 (coef_at j line) fits_coef in
    let below : int_lt (coef_at j line) (pos 0) ≡ true = sym (ap (λ z. int_lt z (pos 0)) back)
    ∙ c.if-as_slice-column-lt0.true in
    let turned : opposite_of line ≡ oriented_of j line = ap (λ t. cond t (opposite_of line) line) (sym below) in
    to_z-of_z w128 c.opposite.result fits ∙ c.opposite.ensures ∙ ap neg_ℤ over
    ∙ sym (opposite_over rows nonbasic line) ∙ ap (over_of rows nonbasic) turned
