use Rattle.std.proofs.Common.{◌≡◌, All, length}
use Rattle.nomos_forms.specs.Bounds.{IsSmall}
use Rattle.nomos_contract_tests.proofs.forms.form.Given as goal

abbrev pub invariant-loop-star : goal.invariant-loop-star
invariant-loop-star l = (length l.coefs.items ≡ l.star) × All IsSmall l.coefs.items
