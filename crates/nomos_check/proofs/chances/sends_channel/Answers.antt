use Rattle.nomos_ir.specs.declared.ids.TypeId.{TypeId}
use Rattle.nomos_ir.specs.declared.type_node.TypeNode.{TypeNode}
use Rattle.nomos_ir.specs.declared.type_node.TypeNode.TheVariants as node
use Rattle.nomos_types.specs.Premises.{HasType, by_side}
use Rattle.nomos_check.specs.mirror.StandingData.{shape_of}
use Rattle.nomos_check.proofs.ChannelLaws.{none-found, form-found}
use Rattle.nomos_check.proofs.chances.sends_channel.Goals as goal

pub returns-in_err-node : goal.returns-in_err-node
returns-in_err-node c =
    let j = shape_of c.args.now.now in
    let form : TypeId × TypeId → TypeNode = λ p. by_side c.args.c (node.Tensor p.0 p.1) (node.Lolli p.0 p.1) in
    none-found (λ x. HasType c.args.program.now j c.args.c (form x)) _ c.from_residual.ensures
    (λ x typed. c.in_err-node.ensures (form x) typed)

pub returns : goal.returns
returns c =
    let j = shape_of c.args.now.now in
    let form : TypeId × TypeId → TypeNode = λ p. by_side c.args.c (node.Tensor p.0 p.1) (node.Lolli p.0 p.1) in
    form-found c.args.program.now j form c.args.c c.in_ok-node.node.now _ c.in_ok-node.ensures c.sent_channel.ensures
