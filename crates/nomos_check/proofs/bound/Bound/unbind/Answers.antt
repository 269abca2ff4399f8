use Rattle.std.proofs.Common.{List, subst, sym, ◌∙◌}
use Rattle.nomos_ir.specs.declared.ids.VarId.{VarId}
use Rattle.nomos_ir.specs.Bindings.{IsAscending}
use Rattle.nomos_ir.proofs.BindingLaws.{unbind-ascending}
use Rattle.nomos_check.proofs.bound.Bound.unbind.Goals as goal

pub invariant_of-self : goal.invariant_of-self
invariant_of-self g c =
    let Pair : Type 0 = VarId × g.row.X.Denot in
    let Ascends : List Pair → Type 0 = λ l. IsAscending l in
    let old = c.into_vec-pairs.result.items in
    let same = sym (c.into_vec-pairs.ensures ∙ c.replace.ensures.value) in
    let before : Ascends old = subst Ascends same c.self.invariant in
    let after = unbind-ascending c.args.v.0 old before in
    subst Ascends (sym (c.of_vec-2.ensures ∙ c.take_away.ensures)) after
