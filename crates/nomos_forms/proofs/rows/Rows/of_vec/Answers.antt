use Rattle.std.proofs.Common.{◌∙◌}
use Rattle.std.proofs.lemmas.Result.{IfOk-weaker}
use Rattle.nomos_forms.proofs.TakenLemmas.{all-taken}
use Rattle.nomos_forms.proofs.rows.Rows.of_vec.Goals as goal

pub returns : goal.returns
returns c =
    let start = c.into_iter-row-iterator in
    let all = all-taken start.result c.loop-row.yielded c.loop-row.row-iterator c.loop-row.yielded_by
    c.in-None.ensures.steps.0 in
    IfOk-weaker c.of_groups.result _ _ (λ rows is. is ∙ c.loop-row.invariant ∙ all ∙ start.ensures.into_iter_gives.0)
    c.of_groups.ensures
