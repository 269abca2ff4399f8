use Rattle.std.proofs.Common.{◌≡◌, take}
use Rattle.std.specs.List.{flat_map}
use Rattle.nomos_ir.specs.Amounts.{most_star}
use Rattle.nomos_ir.specs.TypeParts.{type_amounts}
use Rattle.nomos_ir.proofs.stars.stars_in_types.Given as goal

-- the greatest of the nodes so far
abbrev pub invariant-loop-at : goal.invariant-loop-at
invariant-loop-at l = l.most ≡ most_star (flat_map (λ t. type_amounts t.node) (take l.at-index l.types))
