use Rattle.std.proofs.Common.{◌≡◌, filter, map, take}
use Rattle.nomos_typed.specs.mirror.TypedTalks.{talks_at_l}
use Rattle.nomos_typed.proofs.sections.names_at_l.Given as goal

-- of those so far
abbrev pub invariant-loop-entry : goal.invariant-loop-entry
invariant-loop-entry l =
    l.made.items ≡ filter (talks_at_l l.told) (map (λ t. t.0) (take l.entry-index l.entry-items))
