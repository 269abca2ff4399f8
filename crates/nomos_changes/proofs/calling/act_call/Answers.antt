use Rattle.std.proofs.Common.{◌∙◌, sym}
use Rattle.nomos_deeds.specs.declared.act.Act.TheVariants as act
use Rattle.nomos_machine.specs.Deeds.{calls}
use Rattle.nomos_changes.specs.Gives.{called}
use Rattle.nomos_changes.proofs.BecomesLemmas.{on_ok}
use Rattle.nomos_changes.proofs.BeginActLemmas.{begun-change}
use Rattle.nomos_changes.proofs.GivenLemmas.{calls-alone}
use Rattle.nomos_changes.proofs.MadeLemmas.{alone-made, can-acts}
use Rattle.nomos_changes.proofs.calling.act_call.Goals as goal

pub returns-clause-ok : goal.returns-clause-ok
returns-clause-ok g c =
    let s = g.P.Sight.state c.args.parts.now in
    let a = c.args.accepted.now in
    let call = c.args.call in
    let acts = can-acts a s call.pid c.args.values (act.Call call.declaration) c.requires.can in
    let p = acts.process in
    let got = begun-change a s p call.declaration c.args.values acts.change
    (λ d args g. calls a s p d g) acts.changes in
    on_ok c.go_on_at.result
    (λ is. is
    ∙ alone-made a s p (called got.declaration got.gives p) call.pid acts.change acts.number
    (got.is ∙ calls-alone a s p got.declaration got.gives)
    ∙ sym acts.makes)
    (c.go_on_at.ensures.ok p got.declaration got.args got.gives acts.there got.begins)
