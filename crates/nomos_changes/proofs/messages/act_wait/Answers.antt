use Rattle.std.proofs.Common.{◌∙◌, sym}
use Rattle.nomos_deeds.specs.declared.act.Act.TheVariants as act
use Rattle.nomos_machine.specs.Revised.{standing_at, without_channel}
use Rattle.nomos_changes.proofs.MadeLemmas.{can-acts}
use Rattle.nomos_changes.proofs.SendActLemmas.{heard-is, purses-fit, takes-made}
use Rattle.nomos_changes.proofs.messages.act_wait.Goals as goal

pub returns-clause-state : goal.returns-clause-state
returns-clause-state g c a vs can =
    let s = g.P.Sight.state c.args.parts.now in
    let acts = can-acts a s c.args.pid vs (act.Wait c.args.v c.args.message c.args.next) can in
    let p = acts.process in
    let got = heard-is a s p c.args.v c.args.message c.args.next vs acts.change acts.changes in
    c.hear_end.ensures.state p got.message acts.there got.found
    (purses-fit s c.args.pid c.args.message p got.message can.gas acts.there got.found)
    ∙ takes-made a s p got.message c.args.pid c.args.message (standing_at c.args.next (without_channel c.args.v p))
    acts.change acts.number got.found got.is
    ∙ sym acts.makes
