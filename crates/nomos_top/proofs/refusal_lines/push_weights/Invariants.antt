use Rattle.std.proofs.Common.{◌≡◌, ◌++◌, take}
use Rattle.std.specs.List.{flat_map}
use Rattle.nomos_top.specs.Refusal.{weight_line}
use Rattle.nomos_top.proofs.refusal_lines.push_weights.Given as goal

-- the lines of the weights so far
abbrev pub invariant-loop-weight : goal.invariant-loop-weight
invariant-loop-weight l = l.text.items ≡ l.fn.text.items ++ flat_map weight_line (take l.weight-index l.weights)
