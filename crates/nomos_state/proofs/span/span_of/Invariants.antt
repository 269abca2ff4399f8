use Rattle.nomos_state.proofs.SpanLemmas.{AreSpanned}
use Rattle.nomos_state.proofs.span.span_of.Given as goal

abbrev pub invariant-loop-pair : goal.invariant-loop-pair
invariant-loop-pair l = AreSpanned l.pairs l.pair-index l.span
