use Rattle.std.proofs.Common.{◌≡◌}
use Rattle.nomos_forms.specs.RowGroups.{rows_in}
use Rattle.nomos_forms.proofs.rows.Rows.of_vec.Given as goal

-- the rows so far
abbrev pub invariant-loop-row : goal.invariant-loop-row
invariant-loop-row l = rows_in l.groups.items ≡ l.yielded
