use Rattle.nomos_ir.specs.declared.type_node.TypeNode.TheVariants as node
use Rattle.nomos_check.specs.mirror.StandingData.{shape_of}
use Rattle.nomos_check.proofs.ChannelLaws.{test-found}
use Rattle.nomos_check.proofs.chances.ends.Goals as goal

pub returns-in-Some : goal.returns-in-Some
returns-in-Some c =
    test-found c.args.program.now (shape_of c.args.now.now) node.One c.args.c c.in-Some.node.now _ c.in-Some.ensures
    c.is_one.ensures

pub returns-in-None : goal.returns-in-None
returns-in-None c = (λ no. absurd cc, λ typed. absurd (c.in-None.ensures node.One typed))
