use Rattle.std.proofs.Common.{◌∙◌, [], ap}
use Rattle.nomos_machine.specs.State.{State}
use Rattle.nomos_changes.proofs.OpeningLemmas.{back-inside, gone-outside}
use Rattle.nomos_changes.proofs.talking.come_outside.Goals as goal

pub returns-in-Ok-clause-ok : goal.returns-in-Ok-clause-ok
returns-in-Ok-clause-ok g c =
    gone-outside (g.P.Sight.state c.args.parts.now) (g.P.Sight.state c.send_outside.new.self)
    (g.P.Sight.state c.come.new.parts) c.args.child.fields.offers c.args.child.fields.payer c.args.dths _ c.args.offers
    c.requires.nobody c.in_ok-send_outside.ensures.ok c.in-Ok.ensures.ok

pub returns-in-Err-clause-err : goal.returns-in-Err-clause-err
returns-in-Err-clause-err g c =
    c.take_outside.ensures.state
    ∙ ap (λ (s : State). record s { outside = [] }) (c.in-Err.ensures.err ∙ c.in_ok-send_outside.ensures.ok)
    ∙ back-inside (g.P.Sight.state c.args.parts.now) c.requires.nobody
