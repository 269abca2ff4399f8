-- Each line is read, or the text is refused at it.
use Rattle.std.proofs.Common.{refl, sym}
use Rattle.nomos_script.proofs.LoopLemmas.{ReadSoFar-none, ReadSoFar-line, ReadSoFar-all, ReadSoFar-open, ReadSoFar-bad, bad_answered, open_answered}
use Rattle.nomos_script.proofs.parsing.read_items.Goals as goal

pub loop-rest-init : goal.loop-rest-init
loop-rest-init c = rw c.new-assembly.ensures (ReadSoFar-none c.args.text.now)

pub returns-in-Err-NoForm-clause-syntax : goal.returns-in-Err-NoForm-clause-syntax
returns-in-Err-NoForm-clause-syntax c = λ k e.
    let none = rw c.in-Err-NoForm.field-0-is at c.in-Err-NoForm.ensures.none in
    let bad = ReadSoFar-bad c.args.text.now c.loop-rest.rest.now c.split_line.result.0.now c.split_line.result.1.now
    c.loop-rest.number c.loop-rest.assembly c.requires c.loop-rest.invariant c.split_line.ensures.lines (none refl) in
    bad_answered c.args.text.now c.loop-rest.number k bad e

pub loop-rest-preserved : goal.loop-rest-preserved
loop-rest-preserved c =
    ReadSoFar-line c.args.text.now c.loop-rest.rest.now c.split_line.result.0.now c.split_line.result.1.now
    c.loop-rest.number c.loop-rest.assembly c.read.new.self c.loop-rest.invariant c.split_line.ensures.lines
    c.split_line.ensures.shorter c.in-Ok.ensures.ok

pub returns-in-Err-clause-syntax : goal.returns-in-Err-clause-syntax
returns-in-Err-clause-syntax c = λ k e.
    open_answered c.args.text.now c.in-Err.first k
    (ReadSoFar-open c.args.text.now c.loop-rest.rest.now c.loop-rest.number c.in-Err.first c.loop-rest.assembly
    c.requires (sym c.loop-rest-test.ensures) c.loop-rest.invariant c.in-Err.ensures.open) e

pub returns-in-Ok-finish-clause-read : goal.returns-in-Ok-finish-clause-read
returns-in-Ok-finish-clause-read c =
    rw c.in-Ok-finish.ensures.closed.1
    (ReadSoFar-all c.args.text.now c.loop-rest.rest.now c.loop-rest.number c.loop-rest.assembly c.requires
    (sym c.loop-rest-test.ensures) c.loop-rest.invariant c.in-Ok-finish.ensures.closed.0)
