use Rattle.std.proofs.Common.{ℕ, ◌-◌, ◌<◌, ◌≤◌}
use Rattle.nomos_simplex.specs.mirror.Classes.{IsAlike}
use Rattle.nomos_simplex.proofs.classes.last_of_class.Given as goal

abbrev pub invariant-loop-last : goal.invariant-loop-last
invariant-loop-last l = record {
  some : l.first ≤ l.last;
  most : l.last ≤ l.end;
  alike : (v : ℕ) → l.first ≤ v → v < l.last → IsAlike l.rows v;
}

abbrev pub decreases-loop-last : goal.decreases-loop-last
decreases-loop-last l = l.end - l.last
