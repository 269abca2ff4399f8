use Rattle.std.proofs.Common.{◌≡◌, take}
use Rattle.nomos_answers.specs.Benches.{all_lasting}
use Rattle.nomos_answers.proofs.benches.all_lasting.Given as goal

-- the firings that stay of the entries so far
abbrev pub invariant-loop-entry : goal.invariant-loop-entry
invariant-loop-entry l = l.firings ≡ all_lasting (take l.entry-index l.entries)
