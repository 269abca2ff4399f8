use Rattle.nomos_ir.specs.declared.type_node.TypeNode.TheVariants as node
use Rattle.nomos_types.specs.Premises.{HasType}
use Rattle.nomos_check.specs.mirror.StandingData.{shape_of}
use Rattle.nomos_check.proofs.ChannelLaws.{none-found, form-found}
use Rattle.nomos_check.proofs.chances.detaches.Goals as goal

pub returns-in_err-node : goal.returns-in_err-node
returns-in_err-node c =
    let j = shape_of c.args.now.now in
    none-found (λ t. HasType c.args.program.now j c.args.c (node.Down t)) _ c.from_residual.ensures
    (λ t typed. c.in_err-node.ensures (node.Down t) typed)

pub returns : goal.returns
returns c =
    let j = shape_of c.args.now.now in
    form-found c.args.program.now j (λ t. node.Down t) c.args.c c.in_ok-node.node.now _ c.in_ok-node.ensures
    c.behind_down.ensures
