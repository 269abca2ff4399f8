use Rattle.nomos_check.proofs.LeadLemmas.{not-true}
use Rattle.nomos_check.proofs.ListSteps.{parts-found}
use Rattle.nomos_check.proofs.list_rules.list_parts.Goals as goal

pub returns-then-is_same_variable : goal.returns-then-is_same_variable
returns-then-is_same_variable c = λ list says. says.differ (c.is_same_variable.ensures.0 c.if-is_same_variable.true)

pub returns : goal.returns
returns c =
    let it = c.args.matching in
    parts-found c.args.now.now it.list it.head it.tail c.get.result
    (λ same. not-true c.if-is_same_variable.false (c.is_same_variable.ensures.1 same))
    (c.is_free.ensures.0 c.if-not-is_free.false) (c.is_free-2.ensures.0 c.if-not-is_free-2.false) c.get.ensures
