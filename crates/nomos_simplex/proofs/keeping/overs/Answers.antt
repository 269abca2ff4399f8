use Rattle.std.proofs.Common.{[], ◌∷◌, ◌++◌, map, arith, ap, sym, ◌∙◌}
use Rattle.std.proofs.lemmas.List.{map_more}
use Rattle.nomos_forms.proofs.ProductLemmas.{wide_back}
use Rattle.nomos_simplex.specs.Tables.{bound_of}
use Rattle.nomos_simplex.specs.mirror.Keeping.{over_of}
use Rattle.nomos_simplex.proofs.LineLemmas.{over_by_bounds}
use Rattle.nomos_simplex.proofs.keeping.overs.Goals as goal

-- one line more
pub loop-line-preserved : goal.loop-line-preserved
loop-line-preserved c =
    let rows = c.args.rows.now in
    let nonbasic = c.args.table.now.nonbasic in
    let line = c.line-item.result in
    let bounds = c.deref.ensures.value ∙ c.in_ok-bounds.ensures.value ∙ ap (map (bound_of rows)) c.as_slice.ensures in
    let over = wide_back c.over_of.result (omega (arith, c.over_of.ensures.size)) ∙ c.over_of.ensures.value
    ∙ over_by_bounds rows nonbasic c.deref.result.now line bounds in
    let value = over ∙ ap (over_of rows nonbasic) c.line-item.is in
    c.in_ok-push.ensures.items ∙ (λ p. c.loop-line.invariant p ++ value p ∷ [])
    ∙ sym (map_more (over_of rows nonbasic) c.as_slice-line-items.result.now c.loop-line.line-index line
    c.loop-line-test.true)
