use Rattle.std.proofs.Common.{◌≡◌, ◌++◌}
use Rattle.nomos_state.specs.Indexed.{held_now}
use Rattle.nomos_state.proofs.CopyLemmas.{objects_on}
use Rattle.nomos_state.proofs.plain_data.copy_objects.Given as goal

-- with the other objects they are all
abbrev pub invariant-loop-place : goal.invariant-loop-place
invariant-loop-place l =
    l.made.items ++ objects_on (held_now l.contents) l.place ≡ objects_on (held_now l.contents) 0
