use Rattle.std.proofs.Common.{sym, subst}
use Rattle.std.proofs.lemmas.Result.{IfOk-weaker}
use Rattle.nomos_forms.specs.RowGroups.{rows_in}
use Rattle.nomos_forms.specs.mirror.SameRows.{HasSame}
use Rattle.nomos_forms.proofs.sorting.in_order.Goals as goal

pub returns-clause-same : goal.returns-clause-same
returns-clause-same c =
    let all = rows_in c.args.groups.items in
    let sorted = c.sort_groups.ensures.same in
    let joined = c.in_ok-groups.ensures.rows in
    let once = subst (HasSame _) joined c.in_ok-groups-2.ensures.same in
    IfOk-weaker c.of_groups.result _ _ (λ rows is. subst (λ xs. HasSame xs all) (sym is) (λ row. (
      (λ h. (sorted row).0 ((once row).0 h)),
      (λ h. (once row).1 ((sorted row).1 h)),
    ))) c.of_groups.ensures
