use Rattle.std.proofs.Common.{List, Contains, ◌∙◌, sym, subst}
use Rattle.nomos_check.specs.InHand.{IsWanted}
use Rattle.nomos_ir.specs.declared.ids.CodeId.{CodeId}
use Rattle.nomos_places.specs.declared.place.Place.{Place}
use Rattle.nomos_places.proofs.found_places.Places.get.Goals as goal

pub returns-in-None : goal.returns-in-None
returns-in-None c = λ a wanted are wants j stands same.
    let d = are.each j stands (subst (λ (e : CodeId). IsWanted wanted e.0) (sym same) wants) in
    let among = subst (λ (l : List Place). Contains l d.place) (sym (c.as_slice.ensures ∙ c.self.view_is)) d.among in
    c.in-None.ensures d.place among (sym d.describes.code ∙ same)
