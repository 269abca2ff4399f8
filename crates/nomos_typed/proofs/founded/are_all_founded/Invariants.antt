use Rattle.std.proofs.Common.{All, take}
use Rattle.nomos_typed.specs.Founded.{ObjectFounded}
use Rattle.nomos_typed.specs.mirror.ComparedWith.{program_of}
use Rattle.nomos_typed.proofs.founded.are_all_founded.Given as goal

-- those so far are
abbrev pub invariant-loop-object : goal.invariant-loop-object
invariant-loop-object l = All (ObjectFounded (program_of l.told) l.told.types.now l.accounts)
    (take l.object-index l.objects)
