-- The names that went by.
use Rattle.std.proofs.Common.{◌≡◌, map, take}
use Rattle.nomos_carrying.proofs.dense.names_of.Given as goal

abbrev pub invariant-loop-named : goal.invariant-loop-named
invariant-loop-named l = l.made.items ≡ map (λ t. t.0) (take l.named-index l.types)
