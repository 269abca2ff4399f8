-- A text is written as one line at most.
use Rattle.std.proofs.Common.{◌≡◌, subst, sym}
use Rattle.nomos_ir.specs.declared.lists.ProgramLists.{ProgramLists}
use Rattle.nomos_snapshot.specs.Line.{IsLine, line_text}
use Rattle.nomos_snapshot.proofs.StandLemmas.{led-by}
use Rattle.nomos_snapshot.proofs.whole.led.Goals as goal

pub returns-in-Some : goal.returns-in-Some
returns-in-Some c =
    let found = rw c.in-Some.is at c.in_ok-line.ensures in
    let here = subst (λ (p : ProgramLists). IsLine p c.in-Some.line × (c.args.text.now ≡ line_text p c.in-Some.line))
    c.requires.reader found in
    led-by c.args.accepted.now c.args.stand c.args.text.now c.in-Some.line c.after.result c.requires.short
    c.requires.differ here.0 here.1 (c.after.ensures c.args.accepted.now (sym c.unit.ensures))
