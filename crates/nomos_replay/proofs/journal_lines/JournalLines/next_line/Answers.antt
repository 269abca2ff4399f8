use Rattle.std.proofs.Common.{refl}
use Rattle.nomos_replay.proofs.LineLemmas.{cut-none, some-line, whole-none}
use Rattle.nomos_replay.proofs.ReadingLemmas.{small-unit}
use Rattle.nomos_replay.proofs.journal_lines.JournalLines.next_line.Goals as goal

pub returns-in-None-clause-err : goal.returns-in-None-clause-err
returns-in-None-clause-err c = (
  refl,
  λ l left begins. some-line c.args.accepted.now.annotations.unit c.args.self.now.lines l left begins
      c.in-None.ensures.0,
)

pub returns-in-Some-Cut-clause-err : goal.returns-in-Some-Cut-clause-err
returns-in-Some-Cut-clause-err c =
    let cut = rw c.in-Some-Cut.field-0-is at c.in-Some-Cut.ensures in
    (refl, cut-none c.args.accepted.now.annotations.unit c.args.self.now.lines cut.1)

pub returns-in-None-2-clause-err : goal.returns-in-None-2-clause-err
returns-in-None-2-clause-err c =
    let a = c.args.accepted.now in
    let apart = rw c.in-Some-Whole.field-0-is at c.in-Some-Whole.ensures in
    let none = rw (c.in-None-2.is, c.unit.ensures) at c.in_ok-line-in-Some-Whole.ensures in (
      refl,
      whole-none a.annotations.unit (small-unit c.know.ensures.accepted) c.args.self.now.lines _ _ apart
          none,
    )
