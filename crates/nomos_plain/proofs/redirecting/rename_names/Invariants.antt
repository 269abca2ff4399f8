-- The names so far are the new ones, and the others are as they were.
use Rattle.std.proofs.Common.{◌≡◌, ◌++◌, map, take, drop}
use Rattle.nomos_machine.specs.Revised.{renamed}
use Rattle.nomos_plain.proofs.redirecting.rename_names.Given as goal

abbrev pub invariant-loop-name : goal.invariant-loop-name
invariant-loop-name l =
    l.names ≡ map (renamed l.old l.new) (take l.name-index l.fn.names) ++ drop l.name-index l.fn.names
