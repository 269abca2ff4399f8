use Rattle.std.proofs.Common.{List, ap}
use Rattle.std.specs.Option.{option_copied}
use Rattle.nomos_ir.specs.declared.type_node.Branch.{Branch}
use Rattle.nomos_ir.specs.declared.type_node.TypeNode.{TypeNode}
use Rattle.nomos_ir.specs.declared.type_node.TypeNode.TheVariants as node
use Rattle.nomos_types.specs.Premises.{HasType, by_side}
use Rattle.nomos_check.specs.mirror.StandingData.{shape_of}
use Rattle.nomos_check.proofs.ChannelLaws.{none-found, form-found}
use Rattle.nomos_check.proofs.chances.awaits_choice.Goals as goal

pub returns-in_err-node : goal.returns-in_err-node
returns-in_err-node c =
    let j = shape_of c.args.now.now in
    let form : List Branch → TypeNode = λ branches. by_side c.args.c (node.With branches) (node.Plus branches) in
    none-found (λ x. HasType c.args.program.now j c.args.c (form x)) _ (ap option_copied c.from_residual.ensures)
    (λ x typed. c.in_err-node.ensures (form x) typed)

pub returns : goal.returns
returns c =
    let j = shape_of c.args.now.now in
    let form : List Branch → TypeNode = λ branches. by_side c.args.c (node.With branches) (node.Plus branches) in
    form-found c.args.program.now j form c.args.c c.in_ok-node.node.now _ c.in_ok-node.ensures c.awaited_choice.ensures
