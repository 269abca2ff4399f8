use Rattle.std.proofs.Common.{◌≡◌, ◌++◌, take}
use Rattle.nomos_report.specs.Block.{star_lines}
use Rattle.nomos_report.proofs.block.push_stars.Given as goal

-- the lines of the stars so far
abbrev pub invariant-loop-star : goal.invariant-loop-star
invariant-loop-star l =
    l.text.items ≡ l.fn.text.items
    ++ star_lines l.accepted.annotations.unit 1 (take l.star l.accepted.annotations.stars)
