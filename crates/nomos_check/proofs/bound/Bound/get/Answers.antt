use Rattle.std.proofs.Common.{List, ap, ◌∙◌}
use Rattle.nomos_ir.specs.declared.ids.VarId.{VarId}
use Rattle.nomos_ir.specs.Bindings.{bound_to}
use Rattle.nomos_check.proofs.PlaceLemmas.{place-bound, place-unbound}
use Rattle.nomos_check.proofs.bound.Bound.get.Goals as goal

pub returns-in-Ok : goal.returns-in-Ok
returns-in-Ok g c =
    let Pair : Type 0 = VarId × g.row.X.Denot in
    let b : List Pair = c.as_slice-pairs.result.now in
    let v = c.args.v in
    place-bound v b c.in-Ok.at c.index-pairs-at.result c.in-Ok.ensures
    ∙ ap (bound_to v.0) (c.as_slice-pairs.ensures ∙ c.self.view_is)

pub returns-in-Err : goal.returns-in-Err
returns-in-Err g c =
    let v = c.args.v in
    place-unbound v c.as_slice-pairs.result.now c.in-Err.field-0 c.in-Err.ensures
    ∙ ap (bound_to v.0) (c.as_slice-pairs.ensures ∙ c.self.view_is)
