-- The first lines were taken, and there is room for the others.
use Rattle.std.proofs.Common.{◌-◌, length, take, true}
use Rattle.nomos_visit.specs.TalkText.{turns_of}
use Rattle.nomos_visit.specs.Visits.{numbers_of}
use Rattle.nomos_visit.specs.mirror.Holding.{HasTaken, IsHeld}
use Rattle.nomos_visit.proofs.held.HeldTalk.hold.Given as goal

abbrev pub invariant-loop-number : goal.invariant-loop-number
invariant-loop-number g l = record {
  held : IsHeld l.self (length l.lines - l.number-index);
  taken : HasTaken (numbers_of (take l.number-index l.lines))
      (turns_of l.initial.self.talk.a.program (take l.number-index l.lines)) l.initial.self true l.self;
}
