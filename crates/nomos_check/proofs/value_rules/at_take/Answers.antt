use Rattle.std.proofs.Common.{◌∙◌, refl, ap}
use Rattle.nomos_ir.specs.declared.code_node.CodeNode.TheVariants as code
use Rattle.nomos_types.specs.Judgement.{Judgement, binds_value, goes_on}
use Rattle.nomos_types.specs.TypingRule as row
use Rattle.nomos_check.specs.mirror.StandingData.{shape_of}
use Rattle.nomos_check.proofs.LeadLemmas.{leads-on, keeps-through}
use Rattle.nomos_check.proofs.StepRows.{take-stuck}
use Rattle.nomos_check.proofs.value_rules.at_take.Goals as goal

pub returns-in_ok-bind_value-in-Some : goal.returns-in_ok-bind_value-in-Some
returns-in_ok-bind_value-in-Some c =
    let over = c.args.over in
    let j = shape_of c.args.now.now in
    let node = code.Take c.requires.stands.0 over.channel over.what over.next in
    let Bound : Judgement → Judgement = λ k. binds_value k over.what c.in-Some.kind in
    leads-on c.args.now.now c.bind_value.new.now (Bound (goes_on j over.channel c.in-Some.t over.next)) node
    c.requires.stands.1 (λ a. refl) (row.take c.requires.stands.1 c.in-Some.kind c.in-Some.t c.in-Some.ensures)
    (c.in_ok-bind_value-in-Some.ensures.shape ∙ ap Bound c.in_ok-go_on-in-Some.ensures.shape)
    (keeps-through c.go_on.ensures.amounts c.bind_value.ensures.amounts)

pub returns-in-None : goal.returns-in-None
returns-in-None c = take-stuck c.requires.stands.1 (λ kind t says. c.in-None.ensures (kind, t) says)
