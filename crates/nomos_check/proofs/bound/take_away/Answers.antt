use Rattle.std.proofs.Common.{List, subst, ◌∙◌}
use Rattle.nomos_ir.specs.declared.ids.VarId.{VarId}
use Rattle.nomos_check.specs.mirror.VariablePlaces.{StandsAt, PartsAt}
use Rattle.nomos_check.proofs.PlaceLemmas.{place-remove, place-absent}
use Rattle.nomos_check.proofs.bound.take_away.Goals as goal

pub returns-in-Ok : goal.returns-in-Ok
returns-in-Ok g c =
    let Pair : Type 0 = VarId × g.row.X.Denot in
    let b : List Pair = c.args.pairs.now.items in
    let v = c.args.v in
    let i = c.in-Ok.at in
    let at : StandsAt v b i = subst (λ (l : List Pair). StandsAt v l i) c.as_slice.ensures.value c.in-Ok.ensures in
    c.remove.ensures.items ∙ place-remove v b i c.remove.result at

pub returns-in_default : goal.returns-in_default
returns-in_default g c =
    let Pair : Type 0 = VarId × g.row.X.Denot in
    let b : List Pair = c.args.pairs.now.items in
    let v = c.args.v in
    let i = c.in_default.field-0 in
    let at : PartsAt v b i = subst (λ (l : List Pair). PartsAt v l i) c.as_slice.ensures.value c.in_default.ensures in
    place-absent v b i at
