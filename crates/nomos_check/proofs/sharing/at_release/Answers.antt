use Rattle.std.proofs.Common.{◌∙◌, refl, ap}
use Rattle.nomos_ir.specs.declared.code_node.CodeNode.TheVariants as code
use Rattle.nomos_ir.specs.declared.mode.Mode.TheVariants as mode
use Rattle.nomos_types.specs.Judgement.{Judgement, at_code, binds_channel}
use Rattle.nomos_types.specs.TypingRule as row
use Rattle.nomos_types.specs.TypingRule.{gives_up}
use Rattle.nomos_check.specs.mirror.StandingData.{shape_of}
use Rattle.nomos_check.proofs.LeadLemmas.{leads-on, keeps-through}
use Rattle.nomos_check.proofs.StepRows.{release-stuck}
use Rattle.nomos_check.proofs.sharing.at_release.Goals as goal

pub returns-in_ok-bind_channel-in-Some : goal.returns-in_ok-bind_channel-in-Some
returns-in_ok-bind_channel-in-Some c =
    let t = c.in-Some.t in
    let j = shape_of c.args.now.now in
    let Bound : Judgement → Judgement = λ k. binds_channel k c.args.a mode.S t in
    leads-on c.args.now.now c.bind_channel.new.now (Bound (at_code (gives_up j c.args.v) c.args.next))
    (code.Release c.requires.stands.0 c.args.v c.args.a c.args.next) c.requires.stands.1 (λ a. refl)
    (row.release c.requires.stands.1 t c.in-Some.ensures)
    (c.in_ok-bind_channel-in-Some.ensures.shape ∙ ap Bound c.give_up.ensures.shape)
    (keeps-through c.give_up.ensures.amounts c.bind_channel.ensures.amounts)

pub returns-in-None : goal.returns-in-None
returns-in-None c = release-stuck c.requires.stands.1 c.in-None.ensures
