use Rattle.std.proofs.Common.{◌≡◌, ◌++◌, drop}
use Rattle.nomos_state.specs.Objects.{types_of}
use Rattle.nomos_state.proofs.plain_data.copy_types.Given as goal

-- with the other names they are all
abbrev pub invariant-loop-place : goal.invariant-loop-place
invariant-loop-place l =
    l.made.items ++ types_of (drop l.place l.contents.names.now) ≡ types_of l.contents.names.now
