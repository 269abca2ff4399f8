use Rattle.std.proofs.Common.{◌≡◌, ◌^◌, take, true, nat_lt}
use Rattle.std.specs.List.{list_all}
use Rattle.nomos_simplex.specs.Exits.{amounts_over}
use Rattle.nomos_simplex.proofs.fractions.amounts.Given as goal

abbrev pub invariant-loop-fraction : goal.invariant-loop-fraction
invariant-loop-fraction l = record {
  amounts : l.amounts.items ≡ amounts_over l.unit (take l.fraction-index l.fractions);
  small : list_all (λ x. nat_lt x (2 ^ 62)) (amounts_over l.unit (take l.fraction-index l.fractions)) ≡ true;
}
