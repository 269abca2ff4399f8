use Rattle.std.proofs.Common.{◌≡◌, ◌++◌, All, map, take}
use Rattle.nomos_typed.specs.declared.leading.Onward.{Onward}
use Rattle.nomos_typed.specs.mirror.Leading.{led_from}
use Rattle.nomos_typed.proofs.leading.push_later.Given as goal

-- those so far begin at the name, and are added
abbrev pub invariant-loop-onward : goal.invariant-loop-onward
invariant-loop-onward l =
    record {
      here : All (λ (o : Onward). o.end ≡ l.from.name) (take l.onward-index l.later);
      pushed : l.led.items ≡ l.fn.led.items ++ map (led_from l.from) (take l.onward-index l.later);
    }
