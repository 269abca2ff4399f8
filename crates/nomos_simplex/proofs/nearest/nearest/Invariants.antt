use Rattle.std.proofs.Common.{◌≡◌, pos, int_lt, IfSome}
use Rattle.nomos_forms.specs.declared.row_list.RowList.{RowList}
use Rattle.nomos_simplex.specs.Exchange.{coef_at}
use Rattle.nomos_simplex.specs.LowestVariable.{foremost_place}
use Rattle.nomos_simplex.specs.Nearest.{is_nearer, line_at}
use Rattle.nomos_simplex.specs.mirror.Keeping.{Shows}
use Rattle.nomos_simplex.specs.mirror.Steps.{MayLeave}
use Rattle.nomos_simplex.proofs.nearest.nearest.Given as goal

-- the choice among the lines so far
abbrev pub invariant-loop-place : goal.invariant-loop-place
invariant-loop-place l = record {
  choice : (rows : RowList) → Shows rows l.kept → l.best ≡
      foremost_place (λ i. int_lt (coef_at l.column (line_at l.kept.table.lines i)) (pos 0))
      (λ i k. is_nearer rows l.kept.table.nonbasic l.column (line_at l.kept.table.lines i)
      (line_at l.kept.table.lines k)) l.place;
  place : IfSome l.best (MayLeave l.kept.table l.column);
}
