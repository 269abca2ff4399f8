use Rattle.nomos_ir.specs.Limits.{text_limit}
use Rattle.nomos_answers.specs.Outside.{FaultCounts}
use Rattle.nomos_answers.proofs.SourceLemmas.{long_text, some_text, taken_text}
use Rattle.nomos_answers.proofs.script_found.read_script.Goals as goal

pub returns-in-Ok : goal.returns-in-Ok
returns-in-Ok g c =
    let counts : FaultCounts = record {
      before = g.S.Source.faults c.args.script.now;
      after = g.S.Source.faults c.read_all.new.source;
    } in (
      c.in-Ok.text.items,
      taken_text c.in-Ok.text.items _ _ c.in-Ok.ensures.whole,
      rw c.deref.ensures.value at (c.script_of.ensures counts),
    )

pub returns-in-Err-TooLong : goal.returns-in-Err-TooLong
returns-in-Err-TooLong g c =
    let t = long_text text_limit _ _ (c.in-Err-TooLong.ensures.too_long (cc)) in (t.0, t.1, t.2)

pub returns-in-Err-ReadFault : goal.returns-in-Err-ReadFault
returns-in-Err-ReadFault g c =
    let t = some_text (g.S.Source.left c.args.script.now) in
    (t.0, t.1, c.in-Err-ReadFault.ensures.fault_rose (cc))

pub returns-in-Err-NoMemory : goal.returns-in-Err-NoMemory
returns-in-Err-NoMemory g c = let t = some_text (g.S.Source.left c.args.script.now) in (t.0, t.1, tt)
