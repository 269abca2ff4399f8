use Rattle.std.proofs.Common.{◌≡◌, All, length, pos, ◌≤ℤ◌}
use Rattle.nomos_forms.specs.Bounds.{IsSmall}
use Rattle.nomos_contract_tests.proofs.least_tests.goal.Given as goal

abbrev pub invariant-loop-star : goal.invariant-loop-star
invariant-loop-star l = record {
  length : length l.coefs.items ≡ l.star;
  small : All IsSmall l.coefs.items;
  coefs : All (λ c. pos 0 ≤ℤ c) l.coefs.items;
}
