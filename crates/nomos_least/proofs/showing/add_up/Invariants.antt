use Rattle.std.proofs.Common.{◌≡◌, ℕ, ◌≤◌, pos, ◌*ℤ◌}
use Rattle.nomos_forms.specs.Refuting.{coef_in, weighted}
use Rattle.nomos_simplex.specs.ShowsLeast.{goal_coef}
use Rattle.nomos_least.proofs.showing.add_up.Given as goal

-- the stars so far
abbrev pub invariant-loop-before : goal.invariant-loop-before
invariant-loop-before l = (star : ℕ) → 1 ≤ star → star ≤ l.before →
    weighted (coef_in star) l.weights ≡ pos l.scale *ℤ goal_coef l.goal star
