use Rattle.nomos_types.specs.TypingRule as row
use Rattle.nomos_check.proofs.LeadLemmas.{not-true}
use Rattle.nomos_check.proofs.StepRows.{close-stuck}
use Rattle.nomos_check.proofs.ending.at_close.Goals as goal

pub returns-then-not-may_close : goal.returns-then-not-may_close
returns-then-not-may_close c =
    close-stuck c.requires.stands.1 (λ says. not-true c.if-not-may_close.true (c.may_close.ensures.1 says.mode))

pub returns-then-not-is_empty : goal.returns-then-not-is_empty
returns-then-not-is_empty c =
    close-stuck c.requires.stands.1 (λ says. not-true c.if-not-is_empty.true (c.is_empty.ensures.1 says.nothing_held))

pub returns-then-not-ends : goal.returns-then-not-ends
returns-then-not-ends c =
    close-stuck c.requires.stands.1 (λ says. not-true c.if-not-ends.true (c.ends.ensures.1 says.channel))

pub returns : goal.returns
returns c = row.close c.requires.stands.1 (record {
  channel = c.ends.ensures.0 c.if-not-ends.false;
  mode = c.may_close.ensures.0 c.if-not-may_close.false;
  nothing_held = c.is_empty.ensures.0 c.if-not-is_empty.false;
})
