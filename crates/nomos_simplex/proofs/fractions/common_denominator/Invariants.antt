use Rattle.std.proofs.Common.{◌≡◌, ◌<◌, ◌≤◌, ◌^◌, take}
use Rattle.nomos_simplex.specs.Exits.{common_denominator}
use Rattle.nomos_simplex.proofs.fractions.common_denominator.Given as goal

-- the denominators so far, or too many parts already
abbrev pub invariant-loop-fraction : goal.invariant-loop-fraction
invariant-loop-fraction l = record {
  same : l.unit ≤ 2 ^ 31 → l.unit ≡ common_denominator 1 (take l.fraction-index l.fractions);
  over : 2 ^ 31 < l.unit → 2 ^ 31 < common_denominator 1 (take l.fraction-index l.fractions);
  positive : 0 < l.unit;
}
