use Rattle.std.proofs.Common.{◌≡◌, ◌++◌, ◌-◌}
use Rattle.nomos_report.specs.ShownState.{channel_line}
use Rattle.nomos_report.specs.mirror.Walked.{walked}
use Rattle.nomos_report.proofs.show.push_channels.Given as goal

-- the lines of the names so far
abbrev pub invariant-loop-next : goal.invariant-loop-next
invariant-loop-next g l =
    let s = g.M.Sight.state l.machine in
    l.text.items ≡ l.fn.text.items ++ walked (λ t. t.0) (channel_line l.accepted s) l.name s.types

-- how many names are left
abbrev pub decreases-loop-next : goal.decreases-loop-next
decreases-loop-next g l = (g.M.Sight.state l.machine).next_name - l.name
