use Rattle.std.proofs.Common.{◌∙◌, All, take, get_or, length, refl, ap, sym, subst}
use Rattle.std.proofs.lemmas.Bool.{false≢true}
use Rattle.std.proofs.lemmas.List.{take_all, take_more}
use Rattle.std.proofs.lemmas.List.Elements.{All-append}
use Rattle.nomos_forms.specs.Bounds.{IsRow}
use Rattle.nomos_forms.specs.Meeting.{MeetsRow}
use Rattle.nomos_forms.specs.RowGroups.{group_rows, rows_in}
use Rattle.nomos_forms.specs.declared.row.Row.{Row}
use Rattle.nomos_forms.proofs.GroupLemmas.{rows-push, all-in-place}
use Rattle.nomos_forms.proofs.meeting.put_back.Goals as goal

pub meets_each-requires-clause-rows : goal.meets_each-requires-clause-rows
meets_each-requires-clause-rows c =
    let groups = c.groups-group-items.result.now in
    let k = c.loop-group.group-index in
    let P = IsRow (length c.args.found.now.stars) in
    let each = subst (λ n. All (IsRow n) c.args.rows.now.rows) (sym c.requires.width) c.args.rows.now.each in
    subst (λ g. All P (group_rows g)) (sym c.group-item.is)
    (all-in-place P groups k c.group-item.result c.loop-group-test.true
    (subst (All P) (sym c.groups-group-items.ensures) each))

pub returns-then-not-meets_each : goal.returns-then-not-meets_each
returns-then-not-meets_each c =
    let groups = c.groups-group-items.result.now in
    let k = c.loop-group.group-index in
    let M : Row → Type 0 = MeetsRow c.args.found.now.stars c.args.found.now.unit in (
      λ e. absurd (false≢true e),
      λ all. sym c.if-not-meets_each.true ∙ c.meets_each.ensures.1
          (subst (λ g. All M (group_rows g)) (sym c.group-item.is)
          (all-in-place M groups k c.group-item.result c.loop-group-test.true
          (subst (All M) (sym c.groups-group-items.ensures) all))),
    )

pub loop-group-preserved : goal.loop-group-preserved
loop-group-preserved c =
    let groups = c.groups-group-items.result.now in
    let k = c.loop-group.group-index in
    let item = c.group-item.result in
    let M : Row → Type 0 = MeetsRow c.args.found.now.stars c.args.found.now.unit in
    let more = ap rows_in (take_more groups k item c.loop-group-test.true)
    ∙ rows-push (take k groups) (get_or groups k item) in
    subst (All M) (sym more) (All-append M (rows_in (take k groups)) (group_rows (get_or groups k item))
    c.loop-group.invariant
    (subst (λ g. All M (group_rows g)) c.group-item.is (c.meets_each.ensures.0 c.if-not-meets_each.false)))

pub returns : goal.returns
returns c =
    let groups = c.groups-group-items.result.now in
    let M : Row → Type 0 = MeetsRow c.args.found.now.stars c.args.found.now.unit in (
      λ _. subst (All M) (ap rows_in (take_all c.loop-group.group-index groups c.loop-group-test.false)
          ∙ c.groups-group-items.ensures) c.loop-group.invariant,
      λ _. refl,
    )
