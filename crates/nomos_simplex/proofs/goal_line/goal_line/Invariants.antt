use Rattle.std.proofs.Common.{◌≡◌, ◌+◌, drop, length}
use Rattle.nomos_simplex.specs.GoalLine.{goal_from, goal_line}
use Rattle.nomos_simplex.specs.Sizes.{IsLine, IsLowest}
use Rattle.nomos_simplex.proofs.goal_line.goal_line.Given as goal

-- with the coefficients of the other stars added, the line becomes the goal's
abbrev pub invariant-loop-before : goal.invariant-loop-before
invariant-loop-before l = record {
  rest : goal_from l.table (l.before + 1) (drop l.before l.goal.coefs) l.line ≡ goal_line l.table l.goal;
  line : IsLine (length l.table.nonbasic) l.line;
  lowest : IsLowest l.line;
}
