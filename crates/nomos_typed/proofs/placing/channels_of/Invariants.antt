use Rattle.std.proofs.Common.{◌≡◌, filter, take}
use Rattle.nomos_typed.specs.mirror.AtPlaces.{is_reference}
use Rattle.nomos_typed.proofs.placing.channels_of.Given as goal

-- of those so far
abbrev pub invariant-loop-channel : goal.invariant-loop-channel
invariant-loop-channel l =
    l.made.items ≡ filter (is_reference l.place.shared l.references) (take l.channel-index l.channels)
