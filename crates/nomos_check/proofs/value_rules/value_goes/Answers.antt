use Rattle.nomos_check.specs.mirror.StandingData.{shape_of}
use Rattle.nomos_check.proofs.LeadLemmas.{not-true}
use Rattle.nomos_check.proofs.PremiseLemmas.{value-sent}
use Rattle.nomos_check.proofs.value_rules.value_goes.Goals as goal

pub returns-in-None : goal.returns-in-None
returns-in-None c = λ t says. c.in-None.ensures (says.kind, t) says.channel

pub returns-then-branch : goal.returns-then-branch
returns-then-branch c =
    record {
      kind = c.in-Some.found.0;
      channel = c.in-Some.ensures;
      value = c.in_ok-is_of_kind.ensures.0
          c.if-branch.true;
    }

pub returns-else-branch : goal.returns-else-branch
returns-else-branch c =
    λ t says.
    not-true c.if-branch.false
    (c.in_ok-is_of_kind.ensures.1
    (value-sent c.args.program.now (shape_of c.args.now.now) c.args.c c.args.e c.in-Some.found t c.in-Some.ensures
    says))
