use Rattle.std.proofs.Common.{refl}
use Rattle.nomos_check.proofs.ListSteps.{match-leads}
use Rattle.nomos_check.proofs.StepRows.{match-stuck}
use Rattle.nomos_check.proofs.list_rules.at_match.Goals as goal

pub returns-in-None : goal.returns-in-None
returns-in-None c = match-stuck c.requires.stands.1 c.in-None.ensures

pub returns : goal.returns
returns c = (
  match-leads c.args.program.now c.args.now.now c.requires.stands.0 c.args.matching c.in-Some.carried _
      c.in_ok-ways.ensures.items c.requires.stands.1 c.in-Some.ensures,
  refl,
)
