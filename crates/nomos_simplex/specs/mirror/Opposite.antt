-- A mirror of the code: a line with the signs of all its numbers changed. No promise stands on it.
use Rattle.std.specs.Prelude.{ℕ, neg_ℤ, pos, int_lt, map, if◌then◌else◌}
use Rattle.nomos_simplex.specs.Exchange.{coef_at}
use Rattle.nomos_simplex.specs.declared.table.TableLine.{TableLine}

-- it says the same
abbrev pub opposite_of : TableLine → TableLine
opposite_of line = record line { times = neg_ℤ line.times; coefs = map neg_ℤ line.coefs }

-- the line of the two whose coefficient in column j is not below 0
abbrev pub oriented_of : ℕ → TableLine → TableLine
oriented_of j line = if int_lt (coef_at j line) (pos 0) then opposite_of line else line
