use Rattle.std.proofs.Common.{refl}
use Rattle.nomos_snapshot.specs.Loading as loading
use Rattle.nomos_snapshot.specs.Loading.{longest_snapshot}
use Rattle.nomos_answers.specs.Outside.{FaultCounts}
use Rattle.nomos_answers.proofs.SourceLemmas.{long_text, some_text, taken_text}
use Rattle.nomos_answers.proofs.resumes.read_ledger.Goals as goal

pub returns-in-Ok-clause-finds : goal.returns-in-Ok-clause-finds
returns-in-Ok-clause-finds g c =
    let counts : FaultCounts = record {
      before = g.S.Source.faults c.args.snapshot.now;
      after = g.S.Source.faults c.read_all.new.source;
    } in (
      c.in-Ok.text.items,
      taken_text c.in-Ok.text.items _ _ c.in-Ok.ensures.whole,
      rw c.deref.ensures.value at (c.ledger_of.ensures.finds counts),
    )

pub returns-in-Err-TooLong-clause-finds : goal.returns-in-Err-TooLong-clause-finds
returns-in-Err-TooLong-clause-finds g c =
    let t = long_text longest_snapshot _ _ (c.in-Err-TooLong.ensures.too_long (cc)) in
    (t.0, t.1, λ known. loading.too_long t.2)

pub returns-in-Err-ReadFault-clause-finds : goal.returns-in-Err-ReadFault-clause-finds
returns-in-Err-ReadFault-clause-finds g c =
    let t = some_text (g.S.Source.left c.args.snapshot.now) in
    (t.0, t.1, c.in-Err-ReadFault.ensures.fault_rose (cc))

pub returns-in-Err-NoMemory-clause-finds : goal.returns-in-Err-NoMemory-clause-finds
returns-in-Err-NoMemory-clause-finds g c =
    let t = some_text (g.S.Source.left c.args.snapshot.now) in (t.0, t.1, λ known. absurd (known refl))
