use Rattle.std.proofs.Common.{◌∙◌, sym}
use Rattle.nomos_monitor.proofs.WakingLaws.{said-spoken}
use Rattle.nomos_monitor.proofs.running.Running.say.Goals as goal

pub returns-in-Some-Some-clause-watched : goal.returns-in-Some-Some-clause-watched
returns-in-Some-Some-clause-watched g c =
    let watched = rw c.in-Some-Some.is-0 at c.requires.watched in
    c.wake_spoken.ensures (g.M.Sight.state c.args.self.now.machine) c.requires.may.typed
    (said-spoken (sym c.outside-name.ensures ∙ c.in-Some-Some.is-1) c.in_ok-say.ensures.ok) watched
