use Rattle.nomos_state.specs.Indexed.{held_now}
use Rattle.nomos_state.specs.Sought.{StandsNotBefore, is_sought}
use Rattle.nomos_state.proofs.sought.first_from.Given as goal

-- it does not stand at the first places
abbrev pub invariant-loop-place : goal.invariant-loop-place
invariant-loop-place l = StandsNotBefore (is_sought l.sought) (held_now l.contents) l.place
