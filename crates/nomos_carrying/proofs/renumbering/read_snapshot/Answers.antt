-- What was read of the source, or why nothing was.
use Rattle.std.proofs.Common.{refl}
use Rattle.nomos_answers.proofs.SourceLemmas.{long_text, some_text, taken_text}
use Rattle.nomos_snapshot.specs.Loading as loading
use Rattle.nomos_snapshot.specs.Loading.{longest_snapshot}
use Rattle.nomos_carrying.proofs.renumbering.read_snapshot.Goals as goal

pub returns-in-Ok : goal.returns-in-Ok
returns-in-Ok g c = λ a. (c.in-Ok.text.items, taken_text c.in-Ok.text.items _ _ c.in-Ok.ensures.whole, refl)

pub returns-in-Err-TooLong : goal.returns-in-Err-TooLong
returns-in-Err-TooLong g c = λ a.
    let t = long_text longest_snapshot _ _ (c.in-Err-TooLong.ensures.too_long (cc)) in
    (t.0, t.1, λ known. loading.too_long t.2)

pub returns-in-Err-ReadFault : goal.returns-in-Err-ReadFault
returns-in-Err-ReadFault g c = λ a.
    let t = some_text (g.S.Source.left c.args.snapshot.now) in
    (t.0, t.1, c.in-Err-ReadFault.ensures.fault_rose (cc))

pub returns-in-Err-NoMemory : goal.returns-in-Err-NoMemory
returns-in-Err-NoMemory g c = λ a.
    let t = some_text (g.S.Source.left c.args.snapshot.now) in (t.0, t.1, λ known. absurd (known refl))
