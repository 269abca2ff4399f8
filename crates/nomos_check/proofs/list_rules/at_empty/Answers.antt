use Rattle.nomos_check.proofs.ListSteps.{empty-leads}
use Rattle.nomos_check.proofs.LeadLemmas.{not-true}
use Rattle.nomos_check.proofs.StepRows.{empty-stuck}
use Rattle.nomos_check.proofs.list_rules.at_empty.Goals as goal

pub returns-then-not-is_free : goal.returns-then-not-is_free
returns-then-not-is_free c =
    empty-stuck c.requires.stands.1 (λ free. not-true c.if-not-is_free.true (c.is_free.ensures.1 free))

pub returns : goal.returns
returns c =
    empty-leads c.args.program.now c.args.now.now c.requires.stands.0 c.args.v c.args.carried c.args.next
    c.bind.new.self
    c.in_ok-bind.ensures c.requires.stands.1 (c.is_free.ensures.0 c.if-not-is_free.false)
