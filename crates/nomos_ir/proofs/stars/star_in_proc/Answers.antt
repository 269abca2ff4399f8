use Rattle.std.proofs.Common.{[], ◌∷◌, arith}
use Rattle.std.specs.List.{flat_map}
use Rattle.nomos_ir.specs.Amounts.{par_amounts}
use Rattle.nomos_ir.proofs.StarLemmas.{most_star-append}
use Rattle.nomos_ir.proofs.stars.star_in_proc.Goals as goal

-- the amounts of the lists stand before the declared potential
pub returns : goal.returns
returns c =
    let d = c.args.declaration.now in
    rw (most_star-append (flat_map par_amounts d.values) (d.amount ∷ [])) (grind arith)
