-- The process is put behind the objects.
use Rattle.std.proofs.Common.{sym}
use Rattle.nomos_snapshot.proofs.GatheringLemmas.{process-settled}
use Rattle.nomos_snapshot.proofs.gathered.Gathering.settle.Goals as goal

pub returns-in_ok-push : goal.returns-in_ok-push
returns-in_ok-push c =
    process-settled c.args.self.now c.push.new.self c.take.new.self c.in-Some.process c.requires
    (sym c.in-Some.ensures.value) c.in-Some.ensures.after c.in_ok-push.ensures.items
