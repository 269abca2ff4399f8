use Rattle.std.proofs.Common.{◌≤ℤ◌, ◌*ℤ◌, pos, All, take}
use Rattle.nomos_forms.proofs.meeting.reaches_each.Given as goal

-- the sum reaches those so far
abbrev pub invariant-loop-least : goal.invariant-loop-least
invariant-loop-least l = All (λ least. (pos l.unit *ℤ least) ≤ℤ l.sum) (take l.least-index l.leasts)
