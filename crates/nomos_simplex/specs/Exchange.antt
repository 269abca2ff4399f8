-- The exchange of a basic and a nonbasic variable.
use Rattle.std.specs.Prelude.{ℕ, ◌^◌, nat_le, Bool, ◌||◌, ℤ, pos, neg_ℤ, ◌*ℤ◌, ◌-ℤ◌, unsigned_abs, List, [], ◌∷◌, ◌++◌, map, remove, slice_index, slice_index_or, slice_set}
use Rattle.std.specs.List.{list_any}
use Rattle.nomos_simplex.specs.Divisors.{in_lowest_terms}
use Rattle.nomos_simplex.specs.declared.table.TableLine.{TableLine}
use Rattle.nomos_simplex.specs.declared.table.Table.{Table}

-- the coefficient in column j
abbrev pub coef_at : ℕ → TableLine → ℤ
coef_at j line = slice_index_or line.coefs j (pos 0)

-- d*s = p*e + rest, solved for e in column j: p*e = d*s - rest
abbrev pub solved_for : ℕ → ℕ → TableLine → TableLine
solved_for j e line = record {
  times = coef_at j line;
  basic = e;
  coefs = slice_set (map neg_ℤ line.coefs) j line.times;
}

-- p*a - g*c, coefficient by coefficient
abbrev pub eliminated : ℤ → ℤ → List ℤ → List ℤ → List ℤ
eliminated p g [] cs = []
eliminated p g (a ∷ as') [] = []
eliminated p g (a ∷ as') (c ∷ cs) = (p *ℤ a -ℤ g *ℤ c) ∷ eliminated p g as' cs

-- another line, f*t = g*e + rest, multiplied by p, with p*e put in
abbrev pub put_into : ℕ → TableLine → TableLine → TableLine
put_into j left line = record line {
  times = coef_at j left *ℤ line.times;
  coefs =
      slice_set (eliminated (coef_at j left) (coef_at j line) line.coefs left.coefs) j
      (coef_at j line *ℤ left.times);
}

-- The line i is left for column j, where e is: e is put into the other lines, and the line solved for it stands at
-- the end, all in lowest terms.
abbrev pub lines_exchanged : ℕ → ℕ → ℕ → TableLine → List TableLine → List TableLine
lines_exchanged i j e left lines =
    map (λ line. in_lowest_terms (put_into j left line)) (remove lines i) ++ in_lowest_terms (solved_for j e left) ∷ []

-- the basic variable of line i, which is left, and the nonbasic variable of column j are exchanged
abbrev pub exchanged : ℕ → ℕ → TableLine → Table → Table
exchanged i j left table = record {
  nonbasic = slice_set table.nonbasic j left.basic;
  lines = lines_exchanged i j (slice_index table.nonbasic j) left table.lines;
}

-- some number of the table has an absolute value of 2^62 or more
abbrev pub is_large : ℤ → Bool
is_large z = nat_le (2 ^ 62) (unsigned_abs z)

abbrev pub is_large_line : TableLine → Bool
is_large_line line = is_large line.times || list_any is_large line.coefs

abbrev pub is_large_table : Table → Bool
is_large_table table = list_any is_large_line table.lines
