use Rattle.std.proofs.Common.{◌≡◌, ◌++◌, take}
use Rattle.std.specs.List.{flat_map}
use Rattle.nomos_report.specs.Block.{bound_lines}
use Rattle.nomos_report.proofs.block.push_bounds.Given as goal

-- the lines of the declarations so far
abbrev pub invariant-loop-p : goal.invariant-loop-p
invariant-loop-p l =
    l.text.items ≡ l.fn.text.items ++ flat_map (bound_lines l.accepted.annotations) (take l.p l.accepted.program.procs)
