-- One line after the other is taken.
use Rattle.std.proofs.Common.{◌+◌, ◌-◌, ℕ, List, [], ◌∷◌, Bool, true, false, length, take, drop, subst, arith}
use Rattle.std.proofs.lemmas.List.{take-append-drop, take_all}
use Rattle.nomos_script.specs.declared.talk_line.TalkLine.{TalkLine}
use Rattle.nomos_visit.specs.TalkText.{turn_of, turns_of}
use Rattle.nomos_visit.specs.Visits.{numbers_of}
use Rattle.nomos_visit.specs.mirror.Holding.{HasHeld, HasTaken}
use Rattle.nomos_visit.proofs.CourseLemmas.{held-done, held-ended, taken-line}
use Rattle.nomos_visit.proofs.NumberLemmas.{held-fewer}
use Rattle.nomos_visit.proofs.held.HeldTalk.hold.Goals as goal

pub returns-then-not-branch : goal.returns-then-not-branch
returns-then-not-branch g c =
    let lines = c.args.lines.now in
    let next = c.loop-number.number-index + 1 in
    let line = c.loop-number-item.result in
    let taken = taken-line lines c.loop-number.number-index line c.loop-number-test.true c.loop-number-item.is
    c.loop-number.invariant.taken
    (subst (λ (b : Bool). HasTaken (line.0 ∷ []) (turn_of c.loop-number.self.talk.a.program line.1 ∷ [])
    c.loop-number.self b c.take_turn.new.self) c.if-not-branch.true c.in_ok-take_turn.ensures.taken) in
    subst (λ (ls : List (ℕ × TalkLine)). HasHeld ls c.args.self.now false c.take_turn.new.self)
    (take-append-drop next lines) (held-ended (take next lines) (drop next lines) taken)

pub loop-number-preserved : goal.loop-number-preserved
loop-number-preserved g c =
    let lines = c.args.lines.now in
    let line = c.loop-number-item.result in
    record {
      held =
          c.in_ok-take_turn.ensures.held (length lines - (c.loop-number.number-index + 1))
          (held-fewer c.loop-number.invariant.held (omega (arith, c.loop-number-test.true)));
      taken =
          taken-line lines c.loop-number.number-index line c.loop-number-test.true c.loop-number-item.is
          c.loop-number.invariant.taken
          (subst (λ (b : Bool). HasTaken (line.0 ∷ []) (turn_of c.loop-number.self.talk.a.program line.1 ∷ [])
          c.loop-number.self b c.take_turn.new.self) c.if-not-branch.false c.in_ok-take_turn.ensures.taken);
    }

pub returns : goal.returns
returns g c =
    let lines = c.args.lines.now in
    held-done lines
    (subst (λ (ls : List (ℕ × TalkLine)). HasTaken (numbers_of ls) (turns_of c.args.self.now.talk.a.program ls)
    c.args.self.now true c.loop-number.self) (take_all c.loop-number.number-index lines c.loop-number-test.false)
    c.loop-number.invariant.taken)
