use Rattle.std.proofs.Common.{◌≡◌, ◌+◌, ◌*◌, ◌∙◌, IfSome, Some, length, refl, sym, subst}
use Rattle.std.proofs.lemmas.Option.{same_Some, slice_get_read}
use Rattle.nomos_ir.specs.declared.ids.VarId.{VarId}
use Rattle.nomos_machine.specs.declared.object.PotentialList.{PotentialList}
use Rattle.nomos_state.proofs.weights.potential_beside.Goals as goal

pub returns-in-Some : goal.returns-in-Some
returns-in-Some c e read =
    let row = c.args.lists.now in
    let d = c.in-Some.pair.now in
    let (within, found) = c.in-Some.ensures.lookup.3 in
    let there = slice_get_read row (length row) c.args.at d refl within (found d) in
    subst (λ (p : VarId × PotentialList). IfSome c.potential_without.result
    (λ n. c.args.potential ≡ Some (n + p.1.amount * length p.1.items))) (same_Some d e (sym there ∙ read))
    c.potential_without.ensures
