use Rattle.nomos_equality.proofs.KnownLemmas.{IsGathering}
use Rattle.nomos_equality.proofs.known.Known.gather_all.Given as goal

-- what was put so far is reached, and what is not left is spread
abbrev pub invariant-loop : goal.invariant-loop
invariant-loop l = IsGathering l.program l.fn.left l.fn.right l.fn.self l.self
