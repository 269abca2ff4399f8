use Rattle.std.proofs.Common.{◌≡◌, Some, ap, subst, ◌∙◌}
use Rattle.nomos_ir.specs.declared.type_node.TypeNode.TheVariants as node
use Rattle.nomos_ir.specs.Nodes.{type_node}
use Rattle.nomos_equality.specs.declared.equality.Comparison.{Comparison}
use Rattle.nomos_equality.specs.SyncAnswer.{AnswersBeside, FindsSynchronizing}
use Rattle.nomos_rows.proofs.UpsLemmas.{up-pairs}
use Rattle.nomos_rows.proofs.shared_types.astray_at.Goals as goal

pub returns-in-Equal-clause-pairs : goal.returns-in-Equal-clause-pairs
returns-in-Equal-clause-pairs c =
    let lists = c.args.program.now in
    let body = c.in-Up.field-0 in
    let is_up : type_node lists c.args.t.0 ≡ Some (node.Up body) = c.node.ensures ∙ ap Some c.in-Up.is in
    let new = c.synchronizing_with.new.equalities in
    let Tells : Comparison → Type 0 = AnswersBeside lists body c.args.t c.args.equalities.now new in
    let found : FindsSynchronizing lists body c.args.t c.args.equalities.now new = subst Tells c.in-Equal.is
    (c.in_ok-synchronizing_with.ensures.answers body is_up) in
    up-pairs lists c.args.t.0 body is_up c.args.equalities.now new found.amounts
