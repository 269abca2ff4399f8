use Rattle.std.proofs.Common.{◌<◌, All, take}
use Rattle.nomos_forms.specs.Refuting.{IsOneOf}
use Rattle.nomos_forms.proofs.refuting.are_all_there.Given as goal

abbrev pub invariant-loop-weight : goal.invariant-loop-weight
invariant-loop-weight l = All (λ w. IsOneOf l.rows.stars l.rows.rows w.of × (0 < w.times)) (take l.weight-index
    l.weights)
