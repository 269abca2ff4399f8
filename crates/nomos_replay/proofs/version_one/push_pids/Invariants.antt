use Rattle.std.proofs.Common.{◌≡◌, ◌++◌, map, take}
use Rattle.nomos_journal.specs.Text.{lines_text}
use Rattle.nomos_journal.specs.declared.line.JournalLine.TheVariants as line
use Rattle.nomos_replay.proofs.version_one.push_pids.Given as goal

-- the lines of the processes so far
abbrev pub invariant-loop-pid : goal.invariant-loop-pid
invariant-loop-pid l = l.text.items ≡ l.fn.text.items ++ lines_text l.unit (map line.Pid (take l.pid-index l.pids))
