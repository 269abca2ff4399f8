-- Each line is read, or the text is refused at it.
use Rattle.std.proofs.Common.{refl, sym}
use Rattle.nomos_script.proofs.TalkLoopLemmas.{SaidSoFar-none, SaidSoFar-line, SaidSoFar-all, SaidSoFar-bad}
use Rattle.nomos_script.proofs.talk_parsing.read_talk.Goals as goal

pub loop-rest-init : goal.loop-rest-init
loop-rest-init c = rw c.new-talk.ensures.items (SaidSoFar-none c.args.text.now)

pub returns-in-Err-NoForm : goal.returns-in-Err-NoForm
returns-in-Err-NoForm c =
    let none = rw c.in-Err-NoForm.field-0-is at c.in-Err-NoForm.ensures.none in
    SaidSoFar-bad c.args.text.now c.loop-rest.rest.now c.split_line.result.0.now c.split_line.result.1.now
    c.loop-rest.number c.loop-rest.talk.items c.requires c.loop-rest.invariant c.split_line.ensures.lines (none refl)

pub loop-rest-preserved : goal.loop-rest-preserved
loop-rest-preserved c =
    SaidSoFar-line c.args.text.now c.loop-rest.rest.now c.split_line.result.0.now c.split_line.result.1.now
    c.loop-rest.number c.loop-rest.talk.items c.add_line.new.talk.items c.loop-rest.invariant
    c.split_line.ensures.lines c.split_line.ensures.shorter c.in-Ok.ensures.ok

pub returns : goal.returns
returns c =
    rw c.of_vec.ensures (SaidSoFar-all c.args.text.now c.loop-rest.rest.now c.loop-rest.number
    c.loop-rest.talk.items c.requires (sym c.loop-rest-test.ensures) c.loop-rest.invariant)
