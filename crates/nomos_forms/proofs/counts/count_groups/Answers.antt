use Rattle.std.proofs.Common.{◌∙◌, ◌++◌, ap}
use Rattle.nomos_forms.specs.mirror.StarCounts.{counts_with}
use Rattle.nomos_forms.proofs.CountLemmas.{blocks-more}
use Rattle.nomos_forms.proofs.counts.count_groups.Goals as goal

-- one star more in the first amount
pub loop-more-preserved : goal.loop-more-preserved
loop-more-preserved c =
    let more = c.loop-more.more in
    let f = counts_with c.args.stars in
    let added = c.in_ok-add_counts_with.ensures in
    record {
      coefs = added.coefs ∙ ap (λ cs. cs ++ f more) c.loop-more.invariant.coefs ∙ blocks-more f more;
      none = added.none;
    }
