-- The state is typed before and afterwards, so each name of mode R or L has one owner.
use Rattle.nomos_deeds.proofs.FireLaws.{typed-owners}
use Rattle.nomos_deeds.proofs.machine.Machine.fire_with.Goals as goal

pub returns-in_err-decision-clause-owners : goal.returns-in_err-decision-clause-owners
returns-in_err-decision-clause-owners g c =
    let owners = typed-owners c.args.accepted.now c.know.ensures.accepted
    (g.Self.Sight.state c.args.self.now) c.requires.may.typed in
    (owners, owners)

pub returns-clause-owners : goal.returns-clause-owners
returns-clause-owners g c =
    let accepted = c.know.ensures.accepted in (
      typed-owners c.args.accepted.now accepted (g.Self.Sight.state c.args.self.now) c.requires.may.typed,
      typed-owners c.args.accepted.now accepted (g.Self.Sight.state c.act_on.new.machine) c.act_on.ensures.typed,
    )
