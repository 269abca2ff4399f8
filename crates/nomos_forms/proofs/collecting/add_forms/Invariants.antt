use Rattle.std.proofs.Common.{◌≡◌, ◌++◌, map, take, All}
use Rattle.nomos_forms.specs.Bounds.{IsRow}
use Rattle.nomos_forms.specs.RowsOf.{form_row}
use Rattle.nomos_forms.specs.RowGroups.{rows_in}
use Rattle.nomos_forms.proofs.collecting.add_forms.Given as goal

-- the rows of the forms so far
abbrev pub invariant-loop-form : goal.invariant-loop-form
invariant-loop-form l = record {
  rows : rows_in l.groups.items ≡ rows_in l.fn.groups.items ++ map form_row (take l.form-index l.forms);
  small : All (IsRow l.stars) (rows_in l.groups.items);
}
