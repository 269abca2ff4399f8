use Rattle.std.proofs.Common.{◌∙◌, ◌≤◌, length, Option, Some, FitsSigned, ap, sym, subst, rules}
use Rattle.std.specs.List.{slice_get}
use Rattle.std.specs.Int.{w64}
use Rattle.std.proofs.lemmas.Int.{to_z-of_z}
use Rattle.std.proofs.lemmas.Option.{slice_get_past}
use Rattle.nomos_forms.specs.RowGroups.{row_of, rows_in}
use Rattle.nomos_forms.specs.mirror.GroupEnds.{IsPlaceOf}
use Rattle.nomos_forms.specs.declared.row.Row.{Row}
use Rattle.nomos_forms.proofs.PlaceLemmas.{slice-at}
use Rattle.nomos_forms.proofs.rows.Rows.row_at.Goals as goal

pub returns-in_ok-share-in-Some : goal.returns-in_ok-share-in-Some
returns-in_ok-share-in-Some c =
    let least = c.index-in-Some.result.now in
    let fits : FitsSigned w64 least = search rules in
    let at = subst (λ gs. IsPlaceOf gs c.args.place (Some (c.in-Some.group, c.in-Some.within))) c.deref-2.ensures.value
    c.in-Some.ensures in
    let x = c.index.ensures in let y = c.index-in-Some.ensures in let z = c.in_ok-share-in-Some.ensures in
    ◌∙◌ {A = Option Row} (λ p. Some (row_of (z p) (to_z-of_z w64 least fits p)))
    (slice-at c.self.inside.groups.items c.args.place c.in-Some.group c.in-Some.within c.index.result.now least at
    x y ∙ (λ p. slice_get (c.self.view_is p) c.args.place))

pub returns-in-None : goal.returns-in-None
returns-in-None c =
    let all = ap rows_in c.deref-2.ensures.value ∙ c.self.view_is in
    sym (slice_get_past c.args.self.now c.args.place (subst (λ rows. length rows ≤ c.args.place) all c.in-None.ensures))
