-- The parameters before have their arguments.
use Rattle.std.proofs.Common.{◌≡◌, take}
use Rattle.std.specs.List.{zip}
use Rattle.nomos_eval.proofs.CallLemmas.{names_of}
use Rattle.nomos_eval.proofs.frame.paired.Given as goal

abbrev pub invariant-loop-at : goal.invariant-loop-at
invariant-loop-at l = l.pairs.items ≡ take l.at (zip (names_of l.pars) l.arguments)
