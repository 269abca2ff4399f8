use Rattle.std.proofs.Common.{ap, refl}
use Rattle.nomos_ir.specs.declared.type_node.TypeNode.{TypeNode}
use Rattle.nomos_equality.specs.declared.hop.Hop.TheVariants as hop
use Rattle.nomos_equality.specs.Paths.{part_by}
use Rattle.nomos_equality.proofs.ComparedLaws.{stays-same}
use Rattle.nomos_equality.proofs.PathLaws.{part-below}
use Rattle.nomos_equality.proofs.synchronizing.synchronizing_with.Goals as goal

pub leads_back_with-requires-clause-from : goal.leads_back_with-requires-clause-from
leads_back_with-requires-clause-from c =
    part-below c.args.program.now c.args.shared.0 c.node.result.now hop.Next c.in-Up.body c.know.ensures.program
    c.node.ensures (ap (λ (n : TypeNode). part_by n hop.Next) c.in-Up.is)

pub returns-in_default-clause-kept : goal.returns-in_default-clause-kept
returns-in_default-clause-kept c = stays-same c.args.equalities.now c.args.equalities.now refl
