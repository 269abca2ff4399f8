use Rattle.std.proofs.Common.{◌≡◌, ◌+◌}
use Rattle.nomos_state.specs.Indexed.{held_now}
use Rattle.nomos_state.proofs.SumLemmas.{carried_on}
use Rattle.nomos_state.proofs.walking.stored.Given as goal

-- with what the other objects carry it is what all do
abbrev pub invariant-loop-place : goal.invariant-loop-place
invariant-loop-place l = l.sum + carried_on (held_now l.contents) l.place ≡ carried_on (held_now l.contents) 0
