use Rattle.nomos_machine.specs.State.{empty}
use Rattle.nomos_walk.proofs.papers.push_still.Goals as goal

pub returns : goal.returns
returns c = c.push_still_end.ensures 0 0 empty
