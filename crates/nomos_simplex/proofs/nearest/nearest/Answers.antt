use Rattle.std.proofs.Common.{◌<◌, ℕ, length, pos, int_lt, get_or, IfSome, ap, sym, subst, ◌∙◌, to_z, of_z, arith}
use Rattle.std.specs.Int.{w128}
use Rattle.std.proofs.lemmas.List.{get_or_default}
use Rattle.nomos_forms.specs.declared.row_list.RowList.{RowList}
use Rattle.nomos_simplex.specs.Exchange.{coef_at}
use Rattle.nomos_simplex.specs.Nearest.{is_nearer, line_at}
use Rattle.nomos_simplex.specs.mirror.Steps.{MayLeave}
use Rattle.nomos_simplex.specs.declared.table.TableLine.{TableLine}
use Rattle.nomos_simplex.proofs.ChoiceLemmas.{foremost_then, foremost_else}
use Rattle.nomos_simplex.proofs.NumberLemmas.{number_back}
use Rattle.nomos_simplex.proofs.nearest.nearest.Goals as goal
use Rattle.nomos_simplex.proofs.nearest.nearest.Goals.{then-as_slice-column-lt0, else-as_slice-column-lt0}

-- one line more
pub loop-place-preserved : goal.loop-place-preserved
loop-place-preserved c =
    let table = c.args.kept.now.table in
    let column = c.args.column in
    let place = c.loop-place.place in
    let low = c.loop-place-test.true in
    let line = c.index-lines-place.result in
    let lines = c.as_slice-lines.ensures in
    let within : place < length table.lines = omega (arith, ap length lines, low) in
    let here = line_at table.lines place in
    let is = ap (λ ls. get_or ls place line) lines ∙ sym (get_or_default table.lines place _ line within) in
    let own = c.requires.table.lines place _ within in
    let coef = ap (λ xs. to_z w128 (of_z w128 (get_or xs column (pos 0))))
    (c.as_slice.ensures ∙ ap (λ (l : TableLine). l.coefs) is)
    ∙ number_back (coef_at column here) (own.coefs column (pos 0) (omega (arith, own.width, c.requires.column))) in
    let passes = λ (i : ℕ). int_lt (coef_at column (line_at table.lines i)) (pos 0) in
    let is_former = λ (rows : RowList) (i : ℕ) (k : ℕ). is_nearer rows table.nonbasic column (line_at table.lines i)
    (line_at table.lines k) in
    elim c.if-as_slice-column-lt0.branch [
      | then-as_slice-column-lt0 w ↦ record {
        choice = λ rows h. w.best-is ∙ foremost_then passes (is_former rows) place c.loop-place.best
            w.nearer_line.result (ap (λ z. int_lt z (pos 0)) (sym coef) ∙ w.if-as_slice-column-lt0.true)
            (c.loop-place.invariant.choice rows h) (w.nearer_line.ensures.nearer rows h);
        place = subst (λ o. IfSome o (MayLeave table column)) (sym w.best-is) w.nearer_line.ensures.place;
      }
      | else-as_slice-column-lt0 w ↦ record {
        choice = λ rows h. w.best-is ∙ foremost_else passes (is_former rows) place c.loop-place.best
            (ap (λ z. int_lt z (pos 0)) (sym coef) ∙ w.if-as_slice-column-lt0.false)
            (c.loop-place.invariant.choice rows h);
        place = subst (λ o. IfSome o (MayLeave table column)) (sym w.best-is) c.loop-place.invariant.place;
      }
    ]
