use Rattle.nomos_ir.specs.TypeParts.{type_amounts}
use Rattle.nomos_ir.proofs.StarLemmas.{most_star_more}
use Rattle.nomos_ir.proofs.stars.stars_in_types.Goals as goal

-- the item adds its own amount
pub loop-at-preserved : goal.loop-at-preserved
loop-at-preserved c =
    let more = most_star_more (λ t. type_amounts t.node) c.args.types.now c.loop-at.at-index c.at-item.result
    c.at-item.is c.loop-at-test.true in
    cc (more, c.loop-at.invariant)
