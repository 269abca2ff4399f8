use Rattle.nomos_plain.proofs.SoundLemmas.{spare_but_one, spare_is_room}
use Rattle.nomos_plain.proofs.plain.PlainStateActing.perform.Goals as goal

pub returns-clause-spare : goal.returns-clause-spare
returns-clause-spare c = spare_but_one c.args.self.now.room c.perform.new.parts.room c.perform.ensures.room

pub returns-clause-frugal : goal.returns-clause-frugal
returns-clause-frugal c some = c.perform.ensures.frugal (spare_is_room c.args.self.now.room some)
