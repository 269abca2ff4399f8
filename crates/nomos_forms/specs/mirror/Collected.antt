-- Groups in which the rows of pairs are collected.
use Rattle.std.specs.Prelude.{◌≡◌, ℕ, List, All}
use Rattle.nomos_forms.specs.Bounds.{IsRow}
use Rattle.nomos_forms.specs.RowGroups.{rows_in}
use Rattle.nomos_forms.specs.declared.row_group.RowGroup.{RowGroup}
use Rattle.nomos_forms.specs.mirror.StarCounts.{all_counts}
use Rattle.nomos_forms.specs.mirror.Joining.{coefs_of}

-- a group for the stars in each amount, with small numbers in its rows
pub record AreCounted (stars : ℕ) (groups : List RowGroup) : Type 0 where
  pub coefs : coefs_of groups ≡ all_counts stars
  pub small : All (IsRow stars) (rows_in groups)
