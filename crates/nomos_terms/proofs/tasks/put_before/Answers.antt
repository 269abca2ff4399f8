-- What is no list has nothing before it.
use Rattle.nomos_terms.proofs.TaskLemmas.{vain_before}
use Rattle.nomos_terms.proofs.tasks.put_before.Goals as goal

pub returns-in_default-element-clause-vain : goal.returns-in_default-element-clause-vain
returns-in_default-element-clause-vain c =
    λ lists outer _. vain_before lists outer c.args.search.now _ c.in_default-element.ensures _ _ _ c.in-Some.ensures
    c.in-Some-pop.ensures
