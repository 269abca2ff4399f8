use Rattle.std.proofs.Common.{◌≡◌, map, take}
use Rattle.nomos_simplex.specs.mirror.Keeping.{over_of}
use Rattle.nomos_simplex.proofs.keeping.overs.Given as goal

abbrev pub invariant-loop-line : goal.invariant-loop-line
invariant-loop-line l = l.list.items ≡ map (over_of l.rows l.table.nonbasic) (take l.line-index l.line-items)
