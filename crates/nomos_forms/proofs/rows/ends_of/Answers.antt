use Rattle.std.proofs.Common.{◌≡◌, ◌∙◌, ◌+◌, [], ◌∷◌, ◌++◌, length, take, get_or, ap, sym, arith}
use Rattle.std.proofs.lemmas.List.{take_more, length-append, length-map}
use Rattle.nomos_forms.specs.RowGroups.{rows_in, group_rows}
use Rattle.nomos_forms.specs.mirror.GroupEnds.{ends_after}
use Rattle.nomos_forms.specs.declared.row_group.RowGroup.{RowGroup}
use Rattle.nomos_forms.proofs.GroupLemmas.{rows-push}
use Rattle.nomos_forms.proofs.PlaceLemmas.{ends-more}
use Rattle.nomos_forms.proofs.rows.ends_of.Goals as goal

pub loop-group-preserved : goal.loop-group-preserved
loop-group-preserved c =
    let groups = c.args.groups.now in
    let k = c.loop-group.group-index in
    let own = c.group-item.result in
    let g = get_or groups k own in
    let before = take k groups in
    let more = take_more groups k own c.loop-group-test.true in
    let long = ap (λ (g : RowGroup). length g.leasts.items) c.group-item.is in
    let count = ap (λ gs. length (rows_in gs)) more ∙ ap length (rows-push before g)
    ∙ length-append (rows_in before) (group_rows g)
    ∙ ap (λ n. length (rows_in before) + n) (length-map g.leasts.items _) in
    let now : c.in_ok-end.end ≡ 0 + length (rows_in before) + length g.leasts.items =
    omega (arith, c.in_ok-end.ensures, long, c.loop-group.invariant.end) in
    record {
      ends = c.in_ok-push.ensures.items ∙ (λ p. c.loop-group.invariant.ends p ++ now p ∷ [])
          ∙ sym (ap (ends_after 0) more ∙ ends-more 0 before g);
      end = omega (arith, now, count);
    }
