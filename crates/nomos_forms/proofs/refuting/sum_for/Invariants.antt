use Rattle.std.proofs.Common.{◌≡◌, ◌≤◌, ◌*◌, ◌^◌, take, unsigned_abs}
use Rattle.nomos_forms.specs.Refuting.{coef_in, weighted}
use Rattle.nomos_forms.proofs.refuting.sum_for.Given as goal

-- the sum of the weights so far, none of which adds more than 2^107
abbrev pub invariant-loop-weight : goal.invariant-loop-weight
invariant-loop-weight l = (l.sum ≡ weighted (coef_in l.star) (take l.weight-index l.weights)) × (unsigned_abs l.sum ≤
    l.weight-index * 2 ^ 107)
