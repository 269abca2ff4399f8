use Rattle.std.proofs.Common.{◌≡◌, take}
use Rattle.std.specs.List.{flat_map}
use Rattle.nomos_ir.specs.Amounts.{most_star, par_amounts}
use Rattle.nomos_ir.proofs.stars.star_in_pars.Given as goal

-- the greatest of the parameters so far
abbrev pub invariant-loop-par : goal.invariant-loop-par
invariant-loop-par l = l.most ≡ most_star (flat_map par_amounts (take l.par-index l.pars))
