use Rattle.std.proofs.Common.{◌∙◌, [], ◌∷◌, ◌++◌, map, ap, sym, arith}
use Rattle.std.specs.List.{range_with_len}
use Rattle.std.proofs.lemmas.List.{append_assoc, map-append}
use Rattle.std.proofs.lemmas.List.FromFn.{map-range_with_len_more}
use Rattle.nomos_forms.specs.RowGroups.{row_of, rows_in}
use Rattle.nomos_forms.specs.declared.row_group.RowGroup.{RowGroup}
use Rattle.nomos_forms.specs.mirror.StarCounts.{counts}
use Rattle.nomos_forms.specs.mirror.Joining.{coefs_of}
use Rattle.nomos_forms.proofs.GroupLemmas.{rows-push}
use Rattle.nomos_forms.proofs.counts.add_counts_with.Goals as goal

-- one star more in the second amount
pub loop-less-preserved : goal.loop-less-preserved
loop-less-preserved c =
    let less = c.loop-less.less in
    let own = c.in_ok-empty_group.ensures in
    let group = c.in_ok-empty_group.field-0 in
    let groups = c.loop-less.groups.items in
    let pushed = c.in_ok-push.ensures.items in
    let before = coefs_of c.args.groups.now.items in
    let f = counts c.args.stars c.args.more in
    record {
      coefs = ap coefs_of pushed ∙ map-append (λ (g : RowGroup). g.coefs) groups (group ∷ [])
          ∙ (λ p. c.loop-less.invariant.coefs p ++ own.coefs p ∷ [])
          ∙ append_assoc before (map f (range_with_len 0 less)) (f less ∷ [])
          ∙ ap (λ cs. before ++ cs) (sym (map-range_with_len_more f 0 less less (omega arith)));
      none = ap rows_in pushed ∙ rows-push groups group
          ∙ (λ p. c.loop-less.invariant.none p ++ map (row_of group.coefs) (own.none p));
    }
