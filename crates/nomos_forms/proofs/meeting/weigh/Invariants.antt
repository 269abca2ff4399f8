use Rattle.std.proofs.Common.{◌≡◌, ◌≤◌, ◌*◌, ◌^◌, take, unsigned_abs}
use Rattle.nomos_forms.specs.Linear.{dot}
use Rattle.nomos_forms.proofs.meeting.weigh.Given as goal

-- the sum of the places so far, none of which is larger than 2^107
abbrev pub invariant-loop-i : goal.invariant-loop-i
invariant-loop-i l = (l.sum ≡ dot (take l.i l.coefs) (take l.i l.amounts)) × (unsigned_abs l.sum ≤ l.i * 2 ^ 107)
