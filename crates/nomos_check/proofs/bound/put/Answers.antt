use Rattle.std.proofs.Common.{List, set, subst, ap, ◌∙◌}
use Rattle.nomos_ir.specs.declared.ids.VarId.{VarId}
use Rattle.nomos_check.specs.mirror.VariablePlaces.{StandsAt, PartsAt}
use Rattle.nomos_check.proofs.PlaceLemmas.{place-set, place-insert}
use Rattle.nomos_check.proofs.bound.put.Goals as goal

pub returns-in-Ok-clause-ok : goal.returns-in-Ok-clause-ok
returns-in-Ok-clause-ok g c =
    let Pair : Type 0 = VarId × g.row.X.Denot in
    let b : List Pair = c.args.pairs.now.items in
    let v = c.args.v in
    let i = c.in-Ok.at in
    let at : StandsAt v b i = subst (λ (l : List Pair). StandsAt v l i) c.as_slice.ensures.value c.in-Ok.ensures in
    ap (λ (e : Pair). set b i (e.0, c.args.x)) c.index_mut.ensures.value
    ∙ place-set v b i c.index_mut.result.now c.args.x at

pub returns-in_ok-insert-in-Err-clause-ok : goal.returns-in_ok-insert-in-Err-clause-ok
returns-in_ok-insert-in-Err-clause-ok g c =
    let Pair : Type 0 = VarId × g.row.X.Denot in
    let b : List Pair = c.args.pairs.now.items in
    let v = c.args.v in
    let i = c.in-Err.at in
    let at : PartsAt v b i = subst (λ (l : List Pair). PartsAt v l i) c.as_slice.ensures.value c.in-Err.ensures in
    c.in_ok-insert-in-Err.ensures.items ∙ place-insert v b i c.args.x at
