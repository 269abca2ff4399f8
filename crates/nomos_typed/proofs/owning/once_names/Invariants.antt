use Rattle.std.proofs.Common.{◌≡◌, filter, map, take}
use Rattle.nomos_typed.specs.mirror.Ties.{once}
use Rattle.nomos_typed.proofs.owning.once_names.Given as goal

-- of those so far
abbrev pub invariant-loop-entry : goal.invariant-loop-entry
invariant-loop-entry l =
    l.made.items ≡ filter (once l.told l.tie) (map (λ t. t.0) (take l.entry-index l.entry-items))
