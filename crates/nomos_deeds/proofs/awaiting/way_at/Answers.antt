use Rattle.std.proofs.Common.{◌∙◌, subst, ap}
use Rattle.nomos_ir.specs.ValueKind.{ValueHasKind}
use Rattle.nomos_types.specs.Branches.{goes_by}
use Rattle.nomos_deeds.proofs.WayLemmas.{label-way, value-way, pay-way}
use Rattle.nomos_deeds.proofs.awaiting.way_at.Goals as goal

pub returns-in-With-Label : goal.returns-in-With-Label
returns-in-With-Label c =
    label-way c.args.accepted.now c.args.node.now c.args.said.now c.in-With-Label.branches c.in-With-Label.label
    c.goes_by.result c.free.result c.in-With-Label.is-0 c.in-With-Label.is-1
    (c.goes_by.ensures ∙ ap (λ bs. goes_by bs c.in-With-Label.label) c.as_slice.ensures) c.free.ensures

pub returns-then-has_kind : goal.returns-then-has_kind
returns-then-has_kind c =
    value-way c.args.accepted.now c.args.node.now c.args.said.now c.in-ValueIn-Value.kind c.in-ValueIn-Value.goes
    c.in-ValueIn-Value.value c.free-then-has_kind.result c.in-ValueIn-Value.is-0 c.in-ValueIn-Value.is-1
    (subst (λ v. ValueHasKind v c.in-ValueIn-Value.kind) c.node.ensures (c.has_kind.ensures.0 c.if-has_kind.true))
    c.free-then-has_kind.ensures

pub returns-in-PotIn-Pay : goal.returns-in-PotIn-Pay
returns-in-PotIn-Pay c =
    pay-way c.args.accepted.now c.args.node.now c.args.said.now c.in-PotIn-Pay.amount c.in-PotIn-Pay.goes
    c.amount.result c.in-PotIn-Pay.is-0 c.in-PotIn-Pay.is-1 c.amount.ensures
