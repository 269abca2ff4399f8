use Rattle.std.proofs.Common.{◌≡◌, map, All}
use Rattle.std.specs.List.{range_with_len}
use Rattle.nomos_simplex.specs.Exits.{fraction_of, IsFraction}
use Rattle.nomos_simplex.proofs.fractions.fractions.Given as goal

abbrev pub invariant-loop-before : goal.invariant-loop-before
invariant-loop-before l = record {
  value : l.list.items ≡ map (fraction_of l.rows l.table) (range_with_len 1 l.before);
  size : All IsFraction l.list.items;
}
