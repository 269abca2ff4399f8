use Rattle.std.proofs.Common.{List, [], subst, sym, ◌∙◌}
use Rattle.nomos_ir.specs.declared.ids.VarId.{VarId}
use Rattle.nomos_ir.specs.Bindings.{IsAscending}
use Rattle.nomos_ir.proofs.BindingLaws.{bindings_of-ascending}
use Rattle.nomos_check.proofs.bound.Bound.new.Goals as goal

pub invariant_of-result : goal.invariant_of-result
invariant_of-result g c =
    let Pair : Type 0 = VarId × g.row.X.Denot in
    let none : IsAscending {X = g.row.X.Denot} [] = bindings_of-ascending {X = g.row.X.Denot} [] in
    subst (λ (l : List Pair). IsAscending l) (sym (c.of_vec.ensures ∙ c.new.ensures.items)) none
