-- The contracts that went by.
use Rattle.std.proofs.Common.{◌≡◌, map, take}
use Rattle.nomos_carrying.specs.mirror.Dense.{place_in}
use Rattle.nomos_carrying.proofs.dense.DenseNumbers.contracts.Given as goal

abbrev pub invariant-loop-place : goal.invariant-loop-place
invariant-loop-place l = l.made ≡ map (λ c. (c.0, place_in l.self.names c.1)) (take l.place l.contracts)
