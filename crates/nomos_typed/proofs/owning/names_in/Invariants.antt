use Rattle.std.proofs.Common.{◌≡◌, map, take}
use Rattle.nomos_typed.proofs.owning.names_in.Given as goal

-- of those so far
abbrev pub invariant-loop-entry : goal.invariant-loop-entry
invariant-loop-entry l = l.names.items ≡ map (λ t. t.0) (take l.entry-index l.types)
