use Rattle.std.proofs.Common.{Contains, take}
use Rattle.nomos_forms.specs.RowGroups.{rows_in}
use Rattle.nomos_forms.proofs.rows.is_among.Given as goal

-- none so far has the row
abbrev pub invariant-loop-group : goal.invariant-loop-group
invariant-loop-group l = ¬ Contains (rows_in (take l.group-index l.groups)) l.row
