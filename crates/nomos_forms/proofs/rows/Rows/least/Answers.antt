use Rattle.std.proofs.Common.{◌∙◌, ℤ, Option, Some, option_map, FitsSigned, ap, subst, rules}
use Rattle.std.specs.List.{slice_get}
use Rattle.std.specs.Int.{w64}
use Rattle.std.proofs.lemmas.Int.{to_z-of_z}
use Rattle.nomos_forms.specs.mirror.GroupEnds.{IsPlaceOf}
use Rattle.nomos_forms.specs.declared.row.Row.{Row}
use Rattle.nomos_forms.proofs.PlaceLemmas.{slice-at}
use Rattle.nomos_forms.proofs.rows.Rows.least.Goals as goal

pub returns : goal.returns
returns c =
    let least = c.index-2.result.now in
    let fits : FitsSigned w64 least = search rules in
    let at = subst (λ gs. IsPlaceOf gs c.args.place (Some (c.in_ok-group.group, c.in_ok-group.within)))
    c.deref-2.ensures.value
    c.in_ok-group.ensures in
    ◌∙◌ {A = Option ℤ} (ap Some (to_z-of_z w64 least fits)) (ap (option_map (λ (row : Row). row.least))
    (slice-at c.self.inside.groups.items c.args.place c.in_ok-group.group c.in_ok-group.within c.index.result.now least
    at
    c.index.ensures c.index-2.ensures ∙ (λ p. slice_get (c.self.view_is p) c.args.place)))
