-- Lists with the same rows, however often and in whatever order.
use Rattle.std.specs.Prelude.{◌↔◌, List, Contains}
use Rattle.nomos_forms.specs.declared.row.Row.{Row}

abbrev pub HasSame : List Row → List Row → Type 0
HasSame xs ys = (row : Row) → Contains xs row ↔ Contains ys row
