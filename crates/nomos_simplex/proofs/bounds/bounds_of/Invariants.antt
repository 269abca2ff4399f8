use Rattle.std.proofs.Common.{◌≡◌, map, take, All}
use Rattle.nomos_forms.specs.Bounds.{IsSmall}
use Rattle.nomos_simplex.specs.Tables.{bound_of}
use Rattle.nomos_simplex.proofs.bounds.bounds_of.Given as goal

abbrev pub invariant-loop-variable : goal.invariant-loop-variable
invariant-loop-variable l = record {
  value : l.bounds.items ≡ map (bound_of l.rows) (take l.variable-index l.variables);
  small : All IsSmall l.bounds.items;
}
