-- What is left leads to the kinds of the whole term.
use Rattle.nomos_terms.specs.mirror.Left.{Stays, work}
use Rattle.nomos_terms.proofs.kinds.find_kind.Given as goal

abbrev pub invariant-loop-task : goal.invariant-loop-task
invariant-loop-task l = Stays l.program l.outer l.fn.t l.search

abbrev pub decreases-loop-task : goal.decreases-loop-task
decreases-loop-task l = work l.program l.search.todo
