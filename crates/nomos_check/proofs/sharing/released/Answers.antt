use Rattle.nomos_check.specs.mirror.StandingData.{shape_of}
use Rattle.nomos_check.proofs.LeadLemmas.{not-true}
use Rattle.nomos_check.proofs.PremiseLemmas.{released-found}
use Rattle.nomos_check.proofs.sharing.released.Goals as goal

pub returns-then-not-is_free : goal.returns-then-not-is_free
returns-then-not-is_free c = λ t says. not-true c.if-not-is_free.true (c.is_free.ensures.1 says.free)

pub returns : goal.returns
returns c =
    released-found c.args.program.now (shape_of c.args.now.now) c.args.v c.args.a _
    (c.is_free.ensures.0 c.if-not-is_free.false) c.detaches.ensures
