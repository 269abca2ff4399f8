use Rattle.std.proofs.Common.{◌∙◌, refl, ap}
use Rattle.nomos_ir.specs.declared.code_node.CodeNode.TheVariants as code
use Rattle.nomos_ir.specs.declared.mode.Mode.TheVariants as mode
use Rattle.nomos_types.specs.Judgement.{Judgement, at_code, binds_channel}
use Rattle.nomos_types.specs.TypingRule as row
use Rattle.nomos_check.specs.mirror.StandingData.{shape_of}
use Rattle.nomos_check.proofs.LeadLemmas.{leads-on, keeps-through}
use Rattle.nomos_check.proofs.StepRows.{acquire-stuck}
use Rattle.nomos_check.proofs.sharing.at_acquire.Goals as goal

pub returns-in_ok-bind_channel-in-Some : goal.returns-in_ok-bind_channel-in-Some
returns-in_ok-bind_channel-in-Some c =
    let t = c.in-Some.t in
    let j = shape_of c.args.now.now in
    let Bound : Judgement → Judgement = λ k. binds_channel k c.args.v mode.L t in
    leads-on c.args.now.now c.bind_channel.new.now (Bound (at_code j c.args.next))
    (code.Acquire c.requires.stands.0 c.args.a c.args.v c.args.next) c.requires.stands.1 (λ a. refl)
    (row.acquire c.requires.stands.1 t c.in-Some.ensures)
    (c.in_ok-bind_channel-in-Some.ensures.shape ∙ ap Bound c.go_to.ensures.shape)
    (keeps-through c.go_to.ensures.amounts c.bind_channel.ensures.amounts)

pub returns-in-None : goal.returns-in-None
returns-in-None c = acquire-stuck c.requires.stands.1 c.in-None.ensures
