use Rattle.std.proofs.Common.{◌≡◌, take}
use Rattle.std.specs.List.{flat_map}
use Rattle.nomos_ir.specs.Amounts.{most_star, proc_amounts}
use Rattle.nomos_ir.proofs.stars.stars_in_procs.Given as goal

-- the greatest of the declarations so far
abbrev pub invariant-loop-declaration : goal.invariant-loop-declaration
invariant-loop-declaration l = l.most ≡ most_star (flat_map proc_amounts (take l.declaration-index l.procs))
