use Rattle.std.proofs.Common.{List, subst, sym, ◌∙◌}
use Rattle.nomos_ir.specs.declared.ids.VarId.{VarId}
use Rattle.nomos_ir.specs.Bindings.{IsAscending}
use Rattle.nomos_check.proofs.PlaceLemmas.{put-ascending}
use Rattle.nomos_check.proofs.bound.Bound.bind.Goals as goal

pub invariant_of-self : goal.invariant_of-self
invariant_of-self g c =
    let Pair : Type 0 = VarId × g.row.X.Denot in
    let Ascends : List Pair → Type 0 = λ l. IsAscending l in
    let old = c.into_vec-pairs.result.items in
    let same = sym (c.into_vec-pairs.ensures ∙ c.replace.ensures.value) in
    let before : Ascends old = subst Ascends same c.self.invariant in
    let done = c.put-done in
    let after : Ascends done.new.pairs.items = put-ascending done.result c.args.v c.args.x old done.new.pairs.items
    done.ensures.ok done.ensures.err before in
    subst Ascends (sym c.of_vec-2.ensures) after
