use Rattle.std.proofs.Common.{◌∙◌, Contains, take, get_or, refl, ap, sym, subst, ⊎_elim}
use Rattle.std.proofs.lemmas.Bool.{false≢true}
use Rattle.std.proofs.lemmas.List.{take_all, take_more}
use Rattle.std.proofs.lemmas.List.Elements.{Contains-append_cases}
use Rattle.nomos_forms.specs.RowGroups.{group_rows, rows_in}
use Rattle.nomos_forms.proofs.GroupLemmas.{rows-push, in-place}
use Rattle.nomos_forms.proofs.rows.is_among.Goals as goal

pub returns-then-is_in : goal.returns-then-is_in
returns-then-is_in c =
    let has = c.is_in.ensures.0 c.if-is_in.true in (
      λ e. in-place c.args.groups.now c.loop-group.group-index c.group-item.result c.args.row.now c.loop-group-test.true
          (subst (λ g. Contains (group_rows g) c.args.row.now) c.group-item.is has),
      λ h. refl,
    )

pub loop-group-preserved : goal.loop-group-preserved
loop-group-preserved c = λ h.
    let groups = c.args.groups.now in
    let k = c.loop-group.group-index in
    let item = c.group-item.result in
    let row = c.args.row.now in
    let more = ap rows_in (take_more groups k item c.loop-group-test.true)
    ∙ rows-push (take k groups) (get_or groups k item) in
    ⊎_elim c.loop-group.invariant
    (λ own. false≢true (sym c.if-is_in.false ∙ c.is_in.ensures.1
    (subst (λ g. Contains (group_rows g) row) (sym c.group-item.is) own)))
    (Contains-append_cases (rows_in (take k groups)) (group_rows (get_or groups k item)) row
    (subst (λ rows. Contains rows row) more h))

pub returns : goal.returns
returns c =
    let groups = c.args.groups.now in (
      λ e. absurd (false≢true e),
      λ h. absurd (c.loop-group.invariant (subst (λ gs. Contains (rows_in gs) c.args.row.now) (sym (take_all
          c.loop-group.group-index groups c.loop-group-test.false)) h)),
    )
