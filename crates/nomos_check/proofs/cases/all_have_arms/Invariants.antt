use Rattle.std.proofs.Common.{ℕ, ◌<◌, get_or}
use Rattle.nomos_ir.specs.declared.type_node.Branch.{Branch}
use Rattle.nomos_check.specs.mirror.Cases.{HasArm}
use Rattle.nomos_check.proofs.cases.all_have_arms.Given as goal

-- the branches so far have arms
abbrev pub invariant-loop-b : goal.invariant-loop-b
invariant-loop-b l = (k : ℕ) (e : Branch) → k < l.b-index → HasArm l.arms (get_or l.branches k e).label
