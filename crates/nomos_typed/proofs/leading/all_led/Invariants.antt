use Rattle.std.proofs.Common.{◌-◌, ◌^◌}
use Rattle.nomos_typed.proofs.LeadingLemmas.{IsLeading}
use Rattle.nomos_typed.proofs.leading.all_led.Given as goal

-- what one comes to from those so far is there
abbrev pub invariant-loop-next : goal.invariant-loop-next
invariant-loop-next l = IsLeading l.fn.first.items l.onwards l.led.items l.next

abbrev pub decreases-loop-next : goal.decreases-loop-next
decreases-loop-next l = 2 ^ 64 - l.next
