use Rattle.std.proofs.Common.{◌≡◌, filter, take}
use Rattle.nomos_typed.specs.mirror.Ties.{limited}
use Rattle.nomos_typed.proofs.owning.limited_names.Given as goal

-- of those so far
abbrev pub invariant-loop-name : goal.invariant-loop-name
invariant-loop-name l = l.made.items ≡ filter (limited l.told l.tie) (take l.name-index l.names)
