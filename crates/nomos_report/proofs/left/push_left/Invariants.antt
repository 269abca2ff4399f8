use Rattle.std.proofs.Common.{◌≡◌, ◌++◌, ◌-◌}
use Rattle.nomos_machine.specs.Objects.{object_number}
use Rattle.nomos_report.specs.Reported.{left_lines}
use Rattle.nomos_report.specs.mirror.Walked.{walked}
use Rattle.nomos_report.proofs.left.push_left.Given as goal

-- the lines of the objects so far
abbrev pub invariant-loop-next : goal.invariant-loop-next
invariant-loop-next g l =
    l.text.items ≡ l.fn.text.items ++ walked object_number left_lines l.pid (g.M.Sight.state l.machine).objects

-- how many numbers are left
abbrev pub decreases-loop-next : goal.decreases-loop-next
decreases-loop-next g l = (g.M.Sight.state l.machine).next_object - l.pid
