-- A divisor, and the example of docs/SOLVER.md: its first table, and the one after the first exchange, computed.
use Rattle.std.specs.Prelude.{◌≡◌, pos, negsuc, [], ◌∷◌, Some}
use Rattle.std.proofs.Common.{refl}
use Rattle.nomos_simplex.specs.Divisors.{euclid, gcd, common}
use Rattle.nomos_simplex.specs.Exchange.{exchanged}
use Rattle.nomos_simplex.specs.LowestVariable.{entering}
use Rattle.nomos_simplex.specs.declared.table.TableLine.{TableLine}
use Rattle.nomos_simplex.specs.declared.table.Table.{Table}

twelve : gcd 36 24 ≡ 12
unfolding gcd euclid
twelve = refl

-- the line of the row x1 + x2 >= 1
abbrev sum : TableLine
sum = record { times = pos 1; basic = 5; coefs = pos 1 ∷ pos 1 ∷ [] }

-- the lines of -2*x1 >= -1 and of x1 - x2 >= 0 before it
abbrev before : Table
before = record {
  nonbasic = 1 ∷ 2 ∷ [];
  lines =
      record { times = pos 1; basic = 3; coefs = negsuc 1 ∷ pos 0 ∷ [] }
      ∷ record { times = pos 1; basic = 4; coefs = pos 1 ∷ negsuc 0 ∷ [] }
      ∷ sum
      ∷ [];
}

abbrev after : Table
after = record {
  nonbasic = 5 ∷ 2 ∷ [];
  lines =
      record { times = pos 1; basic = 3; coefs = negsuc 1 ∷ pos 2 ∷ [] }
      ∷ record { times = pos 1; basic = 4; coefs = pos 1 ∷ negsuc 1 ∷ [] }
      ∷ record { times = pos 1; basic = 1; coefs = pos 1 ∷ negsuc 0 ∷ [] }
      ∷ [];
}

first_enters : entering before sum ≡ Some 0
first_enters = refl

once_exchanged : exchanged 2 0 sum before ≡ after
unfolding gcd euclid common
once_exchanged = refl
