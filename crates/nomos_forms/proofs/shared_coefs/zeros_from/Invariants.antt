use Rattle.std.proofs.Common.{◌-◌}
use Rattle.nomos_forms.specs.mirror.Zeros.{IsZeroFrom}
use Rattle.nomos_forms.proofs.shared_coefs.zeros_from.Given as goal

abbrev pub invariant-loop-done : goal.invariant-loop-done
invariant-loop-done l = IsZeroFrom (l.count - l.done) l.numbers
