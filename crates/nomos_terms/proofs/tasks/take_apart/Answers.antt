-- What is no list has no parts.
use Rattle.nomos_terms.proofs.TaskLemmas.{vain_parts}
use Rattle.nomos_terms.proofs.tasks.take_apart.Goals as goal

pub returns-in_default-element-clause-vain : goal.returns-in_default-element-clause-vain
returns-in_default-element-clause-vain c =
    λ lists outer _. vain_parts lists outer c.args.search.now _ c.in_default-element.ensures _ _ _ _ _
    c.in-Some.ensures
