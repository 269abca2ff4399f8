use Rattle.std.proofs.Common.{take}
use Rattle.nomos_forms.specs.Meeting.{MeetsRows}
use Rattle.nomos_forms.specs.RowGroups.{rows_in}
use Rattle.nomos_forms.proofs.meeting.put_back.Given as goal

-- the rows of the groups so far are met
abbrev pub invariant-loop-group : goal.invariant-loop-group
invariant-loop-group l = MeetsRows l.found.stars l.found.unit (rows_in (take l.group-index l.group-items))
