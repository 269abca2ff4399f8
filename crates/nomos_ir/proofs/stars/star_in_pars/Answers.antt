use Rattle.std.proofs.Common.{None}
use Rattle.nomos_ir.specs.declared.kind.Base.TheVariants as base
use Rattle.nomos_ir.specs.Amounts.{par_amounts}
use Rattle.nomos_ir.proofs.StarLemmas.{most_star_more_at}
use Rattle.nomos_ir.proofs.stars.star_in_pars.Goals as goal

-- the item adds its own amount
pub loop-par-preserved : goal.loop-par-preserved
loop-par-preserved c =
    let more = most_star_more_at par_amounts c.args.pars.now c.loop-par.par-index
    (record { var = record { 0 = 0 }; kind = record { lists = 0; base = base.Int }; amount = None })
    c.loop-par-test.true in
    cc (more, c.loop-par.invariant)
