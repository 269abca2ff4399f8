use Rattle.std.proofs.Common.{◌∙◌, refl, ap}
use Rattle.nomos_ir.specs.declared.code_node.CodeNode.TheVariants as code
use Rattle.nomos_types.specs.Judgement.{Judgement, binds_channel, goes_on}
use Rattle.nomos_types.specs.TypingRule as row
use Rattle.nomos_check.specs.mirror.StandingData.{shape_of}
use Rattle.nomos_check.proofs.LeadLemmas.{leads-on, keeps-through}
use Rattle.nomos_check.proofs.StepRows.{recv-stuck}
use Rattle.nomos_check.proofs.receiving.at_recv.Goals as goal

pub returns-in_ok-bind_channel-in-Some : goal.returns-in_ok-bind_channel-in-Some
returns-in_ok-bind_channel-in-Some c =
    let over = c.args.over in
    let r = c.in-Some.received in
    let j = shape_of c.args.now.now in
    let node = code.Recv c.requires.stands.0 over.channel over.what over.next in
    let Bound : Judgement → Judgement = λ k. binds_channel k over.what r.mode r.carried in
    leads-on c.args.now.now c.bind_channel.new.now (Bound (goes_on j over.channel r.goes over.next)) node
    c.requires.stands.1 (λ a. refl) (row.recv c.requires.stands.1 r.mode r.carried r.goes c.in-Some.ensures)
    (c.in_ok-bind_channel-in-Some.ensures.shape ∙ ap Bound c.in_ok-go_on-in-Some.ensures.shape)
    (keeps-through c.go_on.ensures.amounts c.bind_channel.ensures.amounts)

pub returns-in-None : goal.returns-in-None
returns-in-None c =
    recv-stuck c.requires.stands.1
    (λ m carried t says. c.in-None.ensures (record { mode = m; carried = carried; goes = t }) says)
