use Rattle.nomos_ir.specs.Amounts.{proc_amounts}
use Rattle.nomos_ir.proofs.StarLemmas.{most_star_more}
use Rattle.nomos_ir.proofs.stars.stars_in_procs.Goals as goal

-- the item adds its own amount
pub loop-declaration-preserved : goal.loop-declaration-preserved
loop-declaration-preserved c =
    let more = most_star_more proc_amounts c.args.procs.now c.loop-declaration.declaration-index
    c.declaration-item.result c.declaration-item.is c.loop-declaration-test.true in
    cc (more, c.loop-declaration.invariant)
