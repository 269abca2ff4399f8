use Rattle.std.proofs.Common.{◌≡◌, flat_map, take}
use Rattle.nomos_typed.specs.mirror.Leading.{led_of}
use Rattle.nomos_typed.proofs.leading.first_led.Given as goal

-- of the objects so far
abbrev pub invariant-loop-object : goal.invariant-loop-object
invariant-loop-object l = l.made.items ≡ flat_map led_of (take l.object-index l.objects)
