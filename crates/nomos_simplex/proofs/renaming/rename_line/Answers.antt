use Rattle.std.proofs.Common.{◌∙◌, arith}
use Rattle.std.specs.Int.{w128}
use Rattle.std.proofs.lemmas.Int.{to_z-of_z}
use Rattle.nomos_forms.proofs.ProductLemmas.{wide_back}
use Rattle.nomos_simplex.specs.mirror.Classes.{named}
use Rattle.nomos_simplex.proofs.LineLemmas.{over_by_bounds}
use Rattle.nomos_simplex.proofs.renaming.rename_line.Goals as goal

pub returns-clause-over : goal.returns-clause-over
returns-clause-over c = λ nonbasic bounds e.
    wide_back c.over_of.result (omega (arith, c.over_of.ensures.size)) ∙ c.over_of.ensures.value
    ∙ over_by_bounds c.args.rows.now nonbasic c.args.bounds.now (named c.lead-lead.result c.args.line.now) bounds

pub returns-clause-lead : goal.returns-clause-lead
returns-clause-lead c = λ nonbasic e. c.lead-lead.ensures.lead nonbasic (to_z-of_z w128 c.args.over c.ranges.over ∙ e)
