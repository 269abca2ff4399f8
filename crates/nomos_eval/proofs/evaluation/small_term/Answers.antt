-- A small term comes to what the node comes to that it enters.
use Rattle.std.proofs.Common.{Some, FitsSigned, rules, sym, ap, ◌∙◌, refl}
use Rattle.std.specs.Int.{w64}
use Rattle.std.proofs.lemmas.Int.{to_z-of_z}
use Rattle.nomos_ir.specs.Evaluation.{ends}
use Rattle.nomos_ir.specs.Value.{int}
use Rattle.nomos_ir.specs.declared.term_node.TermNode.TheVariants as node
use Rattle.nomos_eval.proofs.SmallLemmas.{value-enters, whole-enters}
use Rattle.nomos_eval.proofs.evaluation.small_term.Goals as goal

pub returns-in-Number : goal.returns-in-Number
returns-in-Number c =
    let fits : FitsSigned w64 c.from.result = search rules in (
      1,
      whole-enters c.args.lists.now c.args.env.now c.args.t (Some (node.Number c.in-Number.field-0 c.in-Number.n)) _
          (sym c.in_ok-node.ensures ∙ ap Some c.in-Number.is)
          (ap (λ z. ends (int z) 1) (sym (to_z-of_z w64 c.from.result fits ∙ c.from.ensures))),
    )

pub returns-in-Truth : goal.returns-in-Truth
returns-in-Truth c = (
  1,
  whole-enters c.args.lists.now c.args.env.now c.args.t (Some (node.Truth c.in-Truth.field-0 c.in-Truth.b)) _
      (sym c.in_ok-node.ensures ∙ ap Some c.in-Truth.is) refl,
)

pub returns-in-Var : goal.returns-in-Var
returns-in-Var c =
    value-enters c.args.lists.now c.args.env.now c.args.t (Some (node.Var c.in-Var.field-0 c.in-Var.v)) _
    c.node_bound.result (sym c.in_ok-node.ensures ∙ ap Some c.in-Var.is) refl c.node_bound.ensures

pub returns-in_ok-small_operation-in_default : goal.returns-in_ok-small_operation-in_default
returns-in_ok-small_operation-in_default c =
    value-enters c.args.lists.now c.args.env.now c.args.t (Some c.in_ok-node.node.now) _ c.node_given.result
    (sym c.in_ok-node.ensures) c.in_ok-small_operation-in_default.ensures (c.node_given.ensures 3)
