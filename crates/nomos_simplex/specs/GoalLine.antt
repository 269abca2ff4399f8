-- The line of a goal: e times the goal is the sum of coefficients times the nonbasic variables.
use Rattle.std.specs.Prelude.{◌+◌, ◌/◌, ℕ, ◌==◌, ℤ, pos, ◌+ℤ◌, ◌*ℤ◌, unsigned_abs, List, [], ◌∷◌, length, map, replicate, find, Option, Some, None, if◌then◌else◌}
use Rattle.nomos_forms.specs.declared.form.Form.{Form}
use Rattle.nomos_simplex.specs.Divisors.{gcd, in_lowest_terms}
use Rattle.nomos_simplex.specs.Exchange.{is_large_line}
use Rattle.nomos_simplex.specs.declared.table.TableLine.{TableLine}
use Rattle.nomos_simplex.specs.declared.table.Table.{Table}

-- how often a goes into the least common multiple of a and b
abbrev pub times_to_common : ℤ → ℤ → ℤ
times_to_common a b = pos (unsigned_abs b / gcd (unsigned_abs a) (unsigned_abs b))

-- p*a + q*c, coefficient by coefficient
abbrev pub combined : ℤ → ℤ → List ℤ → List ℤ → List ℤ
combined p q [] cs = []
combined p q (a ∷ as') [] = []
combined p q (a ∷ as') (c ∷ cs) = (p *ℤ a +ℤ q *ℤ c) ∷ combined p q as' cs

-- n times what the line of a star says added to a line, over the least common multiple of the numbers before the two
abbrev pub with_added : ℤ → TableLine → TableLine → TableLine
with_added n star line = record line {
  times = times_to_common line.times star.times *ℤ line.times;
  coefs =
      combined (times_to_common line.times star.times) (times_to_common star.times line.times *ℤ n) line.coefs
      star.coefs;
}

-- a nonbasic variable is once itself
abbrev pub itself : List ℕ → ℕ → TableLine
itself nonbasic v = record {
  times = pos 1;
  basic = v;
  coefs = map (λ w. if w == v then pos 1 else pos 0) nonbasic;
}

-- the line of a star, if it is basic, and otherwise the star itself
abbrev pub line_or_itself : List ℕ → ℕ → Option TableLine → TableLine
line_or_itself nonbasic star (Some line) = line
line_or_itself nonbasic star None = itself nonbasic star

abbrev pub line_of : Table → ℕ → TableLine
line_of table star = line_or_itself table.nonbasic star (find (λ line. line.basic == star) table.lines)

-- nothing as yet; the goal has the number 0, since it is no variable
abbrev pub no_goal : Table → TableLine
no_goal table = record { times = pos 1; basic = 0; coefs = replicate (length table.nonbasic) (pos 0) }

-- a line goes on where none of its numbers is too large
abbrev pub if_small : TableLine → (TableLine → Option TableLine) → Option TableLine
if_small line go_on = if is_large_line line then None else go_on line

-- the coefficients of the stars from a star on are added one by one, each time in lowest terms and with a look at how
-- large the numbers are
abbrev pub goal_from : Table → ℕ → List ℤ → TableLine → Option TableLine
goal_from table star [] line = Some line
goal_from table star (c ∷ cs) line =
    if_small (in_lowest_terms (with_added c (line_of table star) line)) (goal_from table (star + 1) cs)

-- the line of a goal, where no number is too large
abbrev pub goal_line : Table → Form → Option TableLine
goal_line table goal = goal_from table 1 goal.coefs (no_goal table)
