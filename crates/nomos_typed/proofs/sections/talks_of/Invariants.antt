use Rattle.std.proofs.Common.{take}
use Rattle.nomos_typed.specs.mirror.TypedTalks.{AreTalks}
use Rattle.nomos_typed.proofs.sections.talks_of.Given as goal

-- those of the names so far
abbrev pub invariant-loop-one : goal.invariant-loop-one
invariant-loop-one l = AreTalks l.told (take l.one-index l.led) l.made.items
