-- Rows kept in groups, each with its coefficients once.
use Rattle.std.specs.Prelude.{ℤ, List, map}
use Rattle.std.specs.List.{flat_map}
use Rattle.nomos_forms.specs.declared.row.Row.{Row}
use Rattle.nomos_forms.specs.declared.row_group.RowGroup.{RowGroup}

-- coefs * x >= least
abbrev pub row_of : List ℤ → ℤ → Row
row_of coefs least = record { coefs = coefs; least = least }

-- the rows of a group, in the order of its leasts
abbrev pub group_rows : RowGroup → List Row
group_rows group = map (row_of group.coefs) group.leasts.items

-- the rows of groups, one group after the other
abbrev pub rows_in : List RowGroup → List Row
rows_in groups = flat_map group_rows groups
