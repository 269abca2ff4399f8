use Rattle.std.proofs.Common.{◌≡◌, ◌<ℤ◌, pos, get_or, to_z, of_z, ap, sym, subst, ◌∙◌, arith}
use Rattle.std.specs.Int.{w128}
use Rattle.nomos_simplex.specs.Exchange.{coef_at}
use Rattle.nomos_simplex.specs.Sizes.{HasNumbers}
use Rattle.nomos_simplex.specs.declared.table.TableLine.{TableLine}
use Rattle.nomos_simplex.proofs.LineLemmas.{skipped, product_over, lowest_small}
use Rattle.nomos_simplex.proofs.NumberLemmas.{number_back}
use Rattle.nomos_simplex.proofs.table_lines.enter.Goals as goal

-- a line without the entering variable
pub returns-then-as_slice-column-eq0-clause-value : goal.returns-then-as_slice-column-eq0-clause-value
returns-then-as_slice-column-eq0-clause-value c =
    let j = c.args.column in
    let left = c.args.left.now in
    let line = c.args.line.now in
    let low = c.requires.column in
    let width = c.requires.line.width in
    let zero : coef_at j line ≡ pos 0 = sym (number_back (coef_at j line) (c.requires.line.coefs j (pos 0) (omega
    (arith, width, low)))) ∙ ap (λ xs. to_z w128 (of_z w128 (get_or xs j (pos 0)))) (sym c.as_slice.ensures)
    ∙ ap (to_z w128) c.if-as_slice-column-eq0.true in
    sym (skipped j left line low width c.requires.over_zero c.requires.line.positive zero c.requires.lowest)

pub lowest_terms-requires : goal.lowest_terms-requires
lowest_terms-requires c =
    let left = c.args.left.now in
    let positive = subst (λ (l : TableLine). pos 0 <ℤ l.times) (sym c.replace-own.ensures.value)
    c.requires.line.positive in
    let times = ap (λ (l : TableLine). l.times) c.with_entered-made.ensures.made in
    subst (λ z. pos 0 <ℤ z) (sym times) (product_over (coef_at c.args.column left) c.replace-own.result.times
    c.requires.over_zero positive)

pub returns-clause-small : goal.returns-clause-small
returns-clause-small c = λ t.
    let made = c.with_entered-made.result.0 in
    let left = c.args.left.now in
    let positive = subst (λ (l : TableLine). pos 0 <ℤ l.times) (sym c.replace-own.ensures.value)
    c.requires.line.positive in
    let times = ap (λ (l : TableLine). l.times) c.with_entered-made.ensures.made in
    let over = subst (λ z. pos 0 <ℤ z) (sym times) (product_over (coef_at c.args.column left) c.replace-own.result.times
    c.requires.over_zero positive) in
    subst HasNumbers (sym c.lowest_terms.ensures) (lowest_small made over (c.with_entered-made.ensures.small t))
