use Rattle.nomos_forms.specs.mirror.Zeros.{IsZeroBefore}
use Rattle.nomos_forms.proofs.shared_coefs.zeros_before.Given as goal

abbrev pub invariant-loop-i : goal.invariant-loop-i
invariant-loop-i l = IsZeroBefore l.i l.numbers
