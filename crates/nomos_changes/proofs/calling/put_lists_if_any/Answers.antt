use Rattle.std.proofs.Common.{◌≡◌, ◌∙◌, List, [], length, sym, ap, arith, eqb-true}
use Rattle.std.specs.Vec.{vec_len}
use Rattle.std.proofs.lemmas.List.{nil_from_length}
use Rattle.nomos_ir.specs.declared.ids.VarId.{VarId}
use Rattle.nomos_machine.specs.declared.object.PotentialList.{PotentialList}
use Rattle.nomos_changes.specs.SmallChanges.{with_lists}
use Rattle.nomos_changes.proofs.BecomesLemmas.{stays}
use Rattle.nomos_changes.proofs.calling.put_lists_if_any.Goals as goal

pub returns-else-not-is_empty-2-clause-state : goal.returns-else-not-is_empty-2-clause-state
returns-else-not-is_empty-2-clause-state g c p there =
    let given = c.args.lists.items in
    let own = c.lists.result.now in
    let few : vec_len c.args.lists ≡ 0 =
    eqb-true (vec_len c.args.lists) 0 (sym c.is_empty.ensures ∙ c.if-not-is_empty.false) in
    let none : given ≡ [] = nil_from_length given (omega (arith, few, c.args.lists.ok)) in
    let had_none : own ≡ [] = nil_from_length own
    (eqb-true (length own) 0 (sym c.is_empty-else-not-is_empty.ensures ∙ c.if-not-is_empty-2.false)) in
    let same : given ≡ p.lists = none ∙ sym had_none ∙ c.lists.ensures p there in
    stays (g.P.Sight.state c.args.parts.now) c.args.pid p (with_lists given p) there
    (ap (λ (lists : List (VarId × PotentialList)). with_lists lists p) same)
