use Rattle.nomos_check.specs.mirror.StandingData.{shape_of}
use Rattle.nomos_check.proofs.LeadLemmas.{not-true}
use Rattle.nomos_check.proofs.PremiseLemmas.{acquired-found}
use Rattle.nomos_check.proofs.sharing.acquired.Goals as goal

pub returns-then-not-may_acquire : goal.returns-then-not-may_acquire
returns-then-not-may_acquire c = λ t says. not-true c.if-not-may_acquire.true (c.may_acquire.ensures.1 says.mode)

pub returns-then-not-is_free : goal.returns-then-not-is_free
returns-then-not-is_free c = λ t says. not-true c.if-not-is_free.true (c.is_free.ensures.1 says.free)

pub returns : goal.returns
returns c =
    acquired-found c.args.program.now (shape_of c.args.now.now) c.args.a c.args.v _
    (c.may_acquire.ensures.0 c.if-not-may_acquire.false) (c.is_free.ensures.0 c.if-not-is_free.false)
    c.reference_held.ensures
