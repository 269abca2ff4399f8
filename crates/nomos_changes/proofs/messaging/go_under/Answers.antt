use Rattle.std.proofs.Common.{ap}
use Rattle.nomos_ir.specs.declared.code_node.Chan.{Chan}
use Rattle.nomos_changes.specs.PlainFields.{uses_under}
use Rattle.nomos_changes.proofs.BecomesLemmas.{stays}
use Rattle.nomos_changes.proofs.messaging.go_under.Goals as goal

pub returns-in-Own-clause-state : goal.returns-in-Own-clause-state
returns-in-Own-clause-state g c p there =
    stays (g.P.Sight.state c.args.parts.now) c.args.pid p (uses_under c.args.channel c.args.name p) there
    (ap (λ (on : Chan). uses_under on c.args.name p) c.in-Own.is)
