use Rattle.std.proofs.Common.{◌≡◌, ℕ, All, map, take}
use Rattle.std.specs.Vec.{vec_len, vec_capacity}
use Rattle.nomos_plain.specs.Parts.{HasRoom, object_in}
use Rattle.nomos_plain.proofs.plain_parts.reserve_channels.Given as goal

-- the objects are those that they were, no room is lost, and the first ones have the room
abbrev pub invariant-loop-at : goal.invariant-loop-at
invariant-loop-at l =
    (map object_in l.objects.items ≡ map object_in l.fn.objects.items)
    × (vec_len l.objects ≡ vec_len l.fn.objects)
    × (vec_capacity l.objects ≡ vec_capacity l.fn.objects)
    × ((n : ℕ) → All (HasRoom n) l.fn.objects.items → All (HasRoom n) l.objects.items)
    × All (HasRoom l.fn.channels) (take l.at l.objects.items)
