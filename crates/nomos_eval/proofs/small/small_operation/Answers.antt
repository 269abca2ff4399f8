-- The node is that of its operator between two numbers.
use Rattle.std.proofs.Common.{FitsSigned, to_z, of_z, rules, sym, ap, ◌∙◌}
use Rattle.std.specs.Int.{w64}
use Rattle.std.proofs.lemmas.Int.{to_z-of_z}
use Rattle.nomos_ir.specs.Evaluation.{node_evaluation}
use Rattle.nomos_ir.proofs.EvaluationLaws.{evaluation_from}
use Rattle.nomos_eval.specs.mirror.Operation.{operation}
use Rattle.nomos_eval.proofs.SmallLemmas.{operator-comes}
use Rattle.nomos_eval.proofs.small.small_operation.Goals as goal

pub returns : goal.returns
returns c =
    let lists = c.args.lists.now in
    let o = c.in_ok-operator.operator in
    let x = c.in_ok-x.x in
    let y = c.in_ok-y.y in
    let x_fits : FitsSigned w64 c.in_ok-x.x = search rules in
    let y_fits : FitsSigned w64 c.in_ok-y.y = search rules in
    ap (λ n. node_evaluation lists (evaluation_from lists) 0 c.args.env.now n 1) c.in_ok-operator.ensures.1
    ∙ operator-comes lists c.args.env.now o c.in_ok-operator.ensures.0 c.in_ok-operator.a c.in_ok-operator.b x y
    c.in_ok-x.ensures c.in_ok-y.ensures
    ∙ ap (λ z. operation o z y 3) (sym (to_z-of_z w64 x x_fits))
    ∙ ap (λ z. operation o (to_z w64 (of_z w64 x)) z 3) (sym (to_z-of_z w64 y y_fits))
    ∙ c.operate.ensures 3
