use Rattle.std.proofs.Common.{◌≡◌, map, take}
use Rattle.nomos_places.specs.mirror.Needing.{lowest}
use Rattle.nomos_places.proofs.spares.lower_in_arms.Given as goal

-- the lowest of the branches so far
abbrev pub invariant-loop-arm : goal.invariant-loop-arm
invariant-loop-arm l = l.least ≡ lowest l.spares l.most (map (λ a. a.goes.0) (take l.arm-index l.arms))
