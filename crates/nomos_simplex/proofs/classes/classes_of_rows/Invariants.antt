use Rattle.std.proofs.Common.{ℕ, ◌+◌, ◌-◌, ◌<◌, ◌≤◌, length, All}
use Rattle.nomos_simplex.specs.mirror.Classes.{IsClass, IsInOne}
use Rattle.nomos_simplex.proofs.classes.classes_of_rows.Given as goal

-- the classes so far have the rows' variables up to `before`
abbrev pub invariant-loop-before : goal.invariant-loop-before
invariant-loop-before l = record {
  least : l.rows.stars ≤ l.before;
  most : l.before ≤ l.rows.stars + length l.rows.rows;
  classes : All (IsClass l.rows) l.classes.items;
  rows : All (λ class. l.rows.stars < class.first) l.classes.items;
  cover : (v : ℕ) → l.rows.stars < v → v ≤ l.before → IsInOne l.classes.items v;
}

abbrev pub decreases-loop-before : goal.decreases-loop-before
decreases-loop-before l = l.end - l.before
