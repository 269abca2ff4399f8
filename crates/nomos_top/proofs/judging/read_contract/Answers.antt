use Rattle.nomos_answers.proofs.SourceLemmas.{taken_text, some_text, long_text}
use Rattle.nomos_ir.specs.Limits.{text_limit}
use Rattle.nomos_top.proofs.DueLemmas.{too_long-refused}
use Rattle.nomos_top.proofs.judging.read_contract.Goals as goal

pub returns-in-Ok : goal.returns-in-Ok
returns-in-Ok g c =
    taken_text c.in-Ok.text.items (g.S.Source.left c.args.contract.now) (g.S.Source.left c.read_all.new.source)
    c.in-Ok.ensures.whole

pub returns-in-Err-TooLong : goal.returns-in-Err-TooLong
returns-in-Err-TooLong g c =
    let left = g.S.Source.left c.args.contract.now in
    let now = g.S.Source.left c.read_all.new.source in
    let t = long_text text_limit left now (c.in-Err-TooLong.ensures.too_long (cc)) in
    (t.0, t.1, too_long-refused t.0 t.2)

pub returns-in-Err-ReadFault : goal.returns-in-Err-ReadFault
returns-in-Err-ReadFault g c =
    let t = some_text (g.S.Source.left c.args.contract.now) in
    (t.0, t.1, c.in-Err-ReadFault.ensures.fault_rose (cc))

pub returns-in-Err-NoMemory : goal.returns-in-Err-NoMemory
returns-in-Err-NoMemory g c = let t = some_text (g.S.Source.left c.args.contract.now) in (t.0, t.1, tt)
