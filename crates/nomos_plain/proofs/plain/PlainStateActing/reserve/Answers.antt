use Rattle.std.proofs.Common.{arith}
use Rattle.nomos_changes.proofs.BecomesLemmas.{on_ok}
use Rattle.nomos_plain.proofs.SoundLemmas.{spare_at_least, spare_stays}
use Rattle.nomos_plain.proofs.plain.PlainStateActing.reserve.Goals as goal

pub returns-clause-ok : goal.returns-clause-ok
returns-clause-ok c =
    on_ok c.make_room.result (λ within. spare_at_least c.args.firings c.make_room.new.self.room (grind (arith, within)))
    c.make_room.ensures.ok

pub returns-clause-spare : goal.returns-clause-spare
returns-clause-spare c = spare_stays c.args.self.now.room c.make_room.new.self.room c.make_room.ensures.room
