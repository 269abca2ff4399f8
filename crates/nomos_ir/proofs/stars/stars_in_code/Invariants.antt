use Rattle.std.proofs.Common.{◌≡◌, take}
use Rattle.std.specs.List.{flat_map}
use Rattle.nomos_ir.specs.Amounts.{most_star}
use Rattle.nomos_ir.specs.CodeParts.{code_amounts}
use Rattle.nomos_ir.proofs.stars.stars_in_code.Given as goal

-- the greatest of the nodes so far
abbrev pub invariant-loop-node : goal.invariant-loop-node
invariant-loop-node l = l.most ≡ most_star (flat_map code_amounts (take l.node-index l.code))
