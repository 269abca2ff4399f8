use Rattle.std.proofs.Common.{map, nat_eq, rules}
use Rattle.std.proofs.lemmas.Result.{IfOk-weaker}
use Rattle.std.specs.HashSet as bag
use Rattle.nomos_ir.specs.declared.code_node.Arm.{Arm}
use Rattle.nomos_check.proofs.CaseSteps.{labels-HasArm}
use Rattle.nomos_check.proofs.cases.labels_of.Goals as goal

pub returns : goal.returns
returns c =
    IfOk-weaker c.collect.result (bag.IsFromIterResult nat_eq (map (λ (a : Arm). a.label.0) c.args.arms.now)) _
    (labels-HasArm c.args.arms.now) (search rules)
