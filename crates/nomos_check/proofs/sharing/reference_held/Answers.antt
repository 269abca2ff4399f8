use Rattle.std.proofs.Common.{◌≡◌, Some, sym}
use Rattle.nomos_ir.specs.declared.ids.TypeId.{TypeId}
use Rattle.nomos_ir.specs.declared.type_node.TypeNode.TheVariants as node
use Rattle.nomos_ir.specs.Bindings.{bound_to}
use Rattle.nomos_ir.specs.Unfold.{Unfolds}
use Rattle.nomos_check.specs.mirror.StandingData.{shape_of}
use Rattle.nomos_check.proofs.ChannelLaws.{none-found}
use Rattle.nomos_check.proofs.PremiseLemmas.{reference-found}
use Rattle.nomos_check.proofs.StandingLemmas.{shared-in_range}
use Rattle.nomos_check.proofs.sharing.reference_held.Goals as goal

pub unfold-requires-clause-in_range : goal.unfold-requires-clause-in_range
unfold-requires-clause-in_range c =
    shared-in_range c.requires.formed.program c.requires.within c.args.a.0 c.in_ok-own.own (sym c.in_ok-own.ensures)

pub returns-in_err-own : goal.returns-in_err-own
returns-in_err-own c =
    let j = shape_of c.args.now.now in
    let lists = c.args.program.now in
    none-found (λ t. (own : TypeId) × (bound_to c.args.a.0 j.shared ≡ Some own) × Unfolds lists own.0 (node.Up t)) _
    c.from_residual.ensures
    (λ t says. let found = says.1 in let nothing = c.in_err-own.ensures in cc)

pub returns : goal.returns
returns c =
    reference-found c.args.program.now (shape_of c.args.now.now) c.args.a c.in_ok-own.own c.unfold.result
    c.node.result.now _
    (sym c.in_ok-own.ensures) c.unfold.ensures.unfolds c.node.ensures c.behind_up.ensures
