use Rattle.std.proofs.Common.{◌≡◌, ◌++◌, take}
use Rattle.std.specs.List.{flat_map}
use Rattle.nomos_report.specs.Reported.{result_line}
use Rattle.nomos_report.proofs.course.push_results.Given as goal

-- the lines of the results so far
abbrev pub invariant-loop-pid : goal.invariant-loop-pid
invariant-loop-pid l = l.text.items ≡ l.fn.text.items ++ flat_map result_line (take l.pid-index l.results)
