use Rattle.std.proofs.Common.{◌≡◌, ap, arith}
use Rattle.nomos_plain.specs.Plain.{Plain}
use Rattle.nomos_plain.proofs.SoundLemmas.{spare_stays}
use Rattle.nomos_plain.proofs.plain.PlainStateMachine.start.Goals as goal

pub returns-clause-spare : goal.returns-clause-spare
returns-clause-spare c =
    let keeps : c.self.inside.parts.room ≡ c.args.self.now.room = ap (λ (s : Plain). s.room) c.self.view_is in
    spare_stays c.args.self.now.room c.start.new.parts.room
    (omega (arith, keeps, c.start.ensures.room (omega (arith, keeps))))
