-- What is given, after so many nodes.
use Rattle.std.proofs.Common.{FitsSigned, rules, ◌∙◌, sym, ap}
use Rattle.std.specs.Int.{w64}
use Rattle.std.proofs.lemmas.Int.{to_z-of_z}
use Rattle.nomos_ir.specs.Evaluation.{ends}
use Rattle.nomos_ir.specs.Value.{int}
use Rattle.nomos_eval.specs.mirror.Operation.{given}
use Rattle.nomos_eval.proofs.evaluation.node_given.Goals as goal

pub returns-in-Int : goal.returns-in-Int
returns-in-Int c n =
    let fits : FitsSigned w64 c.in-Int.z = search rules in
    (n, ap (λ w. given w n) c.in-Int.is ∙ ap (λ z. ends (int z) n) (sym (to_z-of_z w64 c.in-Int.z fits)))

pub returns-in-Bool : goal.returns-in-Bool
returns-in-Bool c n = (n, ap (λ w. given w n) c.in-Bool.is)
