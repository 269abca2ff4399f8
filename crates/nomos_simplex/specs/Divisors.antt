-- Greatest common divisors, and lowest terms.
use Rattle.std.specs.Prelude.{ℕ, zero, suc, ◌%◌, ◌*◌, ◌/◌, ℤ, pos, neg_ℤ, unsigned_abs, int_div, int_lt, List, [], ◌∷◌, map, if◌then◌else◌}
use Rattle.nomos_simplex.specs.declared.table.TableLine.{TableLine}

-- Euclid's steps, as many as the first number says
unfoldable pub euclid : ℕ → ℕ → ℕ → ℕ
euclid steps a zero = a
euclid zero a (suc b) = a
euclid (suc steps) a (suc b) = euclid steps (suc b) (a % suc b)

-- the greatest common divisor; b steps are enough
unfoldable pub gcd : ℕ → ℕ → ℕ
gcd a b = euclid b a b

-- the least common multiple
abbrev pub lcm : ℕ → ℕ → ℕ
lcm a b = a / gcd a b * b

-- the greatest common divisor of a number and the numbers of a list
abbrev pub common : ℕ → List ℤ → ℕ
common g [] = g
common g (c ∷ cs) = common (gcd g (unsigned_abs c)) cs

-- with the sign of z
abbrev pub signed_like : ℤ → ℕ → ℤ
signed_like z g = if int_lt z (pos 0) then neg_ℤ (pos g) else pos g

-- all numbers of a line divided by one
abbrev pub divided_by : ℤ → TableLine → TableLine
divided_by d line = record line { times = int_div line.times d; coefs = map (λ c. int_div c d) line.coefs }

-- divided by the greatest common divisor of its numbers, so that the number before its basic variable is over 0
abbrev pub in_lowest_terms : TableLine → TableLine
in_lowest_terms line = divided_by (signed_like line.times (common (unsigned_abs line.times) line.coefs)) line
