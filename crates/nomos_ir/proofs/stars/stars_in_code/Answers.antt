use Rattle.nomos_ir.specs.CodeParts.{code_amounts}
use Rattle.nomos_ir.proofs.StarLemmas.{most_star_more}
use Rattle.nomos_ir.proofs.stars.stars_in_code.Goals as goal

-- the item adds its own amount
pub loop-node-preserved : goal.loop-node-preserved
loop-node-preserved c =
    let more = most_star_more code_amounts c.args.code.now c.loop-node.node-index c.node-item.result c.node-item.is
    c.loop-node-test.true in
    cc (more, c.loop-node.invariant)
