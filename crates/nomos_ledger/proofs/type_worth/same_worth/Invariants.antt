use Rattle.std.proofs.Common.{take}
use Rattle.nomos_equality.specs.Answer.{SameWorth}
use Rattle.nomos_ledger.proofs.type_worth.same_worth.Given as goal

-- those of the pairs so far are
abbrev pub invariant-loop-pair : goal.invariant-loop-pair
invariant-loop-pair l = SameWorth l.fn.accepted.annotations (take l.pair-index l.pairs)
