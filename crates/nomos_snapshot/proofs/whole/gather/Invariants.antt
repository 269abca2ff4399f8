-- What was read leads to where the text stands, and no line's number is over the text's length.
use Rattle.std.proofs.Common.{◌+◌, ◌≤◌, length}
use Rattle.nomos_snapshot.specs.mirror.Stands.{HasRead}
use Rattle.nomos_snapshot.proofs.whole.gather.Given as goal

abbrev pub invariant-loop-line : goal.invariant-loop-line
invariant-loop-line l =
    HasRead l.accepted l.text l.left l.at l.stand × (l.at + length l.left ≤ length l.text + 1)

abbrev pub decreases-loop-line : goal.decreases-loop-line
decreases-loop-line l = length l.left
