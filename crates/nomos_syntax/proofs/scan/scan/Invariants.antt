-- The tokens so far stand for the text up to `at`.
use Rattle.std.proofs.Common.{length, ◌-◌}
use Rattle.nomos_syntax.proofs.ScanLemmas.{Scanned}
use Rattle.nomos_syntax.proofs.scan.scan.Given as goal

abbrev pub invariant-loop-at : goal.invariant-loop-at
invariant-loop-at l = Scanned l.text l.tokens.items l.at

abbrev pub decreases-loop-at : goal.decreases-loop-at
decreases-loop-at l = length l.text - l.at
