use Rattle.std.proofs.Common.{◌∙◌, arith}
use Rattle.nomos_forms.proofs.ProductLemmas.{wide_back}
use Rattle.nomos_simplex.proofs.LineLemmas.{over_by_bounds}
use Rattle.nomos_simplex.proofs.exchanging.over_after.Goals as goal

pub returns : goal.returns
returns c =
    wide_back c.over_of.result (omega (arith, c.over_of.ensures.size)) ∙ c.over_of.ensures.value
    ∙ over_by_bounds c.args.rows.now c.args.entry.now.nonbasic.items c.deref.result.now c.args.line.now
    (c.deref.ensures.value ∙ c.requires.shows.value)
