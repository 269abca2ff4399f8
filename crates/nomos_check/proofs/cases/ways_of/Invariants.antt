use Rattle.std.proofs.Common.{take}
use Rattle.nomos_check.specs.mirror.Cases.{AreWays}
use Rattle.nomos_check.proofs.cases.ways_of.Given as goal

-- the arms so far lead on their ways
abbrev pub invariant-loop-a : goal.invariant-loop-a
invariant-loop-a l = AreWays l.c l.branches (take l.a-index l.arms) l.ways.items
