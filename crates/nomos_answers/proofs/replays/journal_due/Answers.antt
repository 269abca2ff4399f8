use Rattle.std.proofs.Common.{arith}
use Rattle.nomos_replay.specs.Answers as answers
use Rattle.nomos_replay.specs.Answers.{max_bytes}
use Rattle.nomos_replay.specs.declared.error.ReplayError.TheVariants as error
use Rattle.nomos_answers.specs.Outside.{source_state}
use Rattle.nomos_answers.specs.Replays as replays
use Rattle.nomos_answers.proofs.DueLemmas.{due-fault, due-read, due-refused, text-within}
use Rattle.nomos_answers.proofs.SourceLemmas.{if_ok-map, long_text, some_text, taken-same, taken-within, taken_text}
use Rattle.nomos_answers.proofs.replays.journal_due.Goals as goal

pub returns-in-Ok-clause-ok : goal.returns-in-Ok-clause-ok
returns-in-Ok-clause-ok g c =
    let source = source_state (g.S.Source.left c.args.journal.now) (g.S.Source.faults c.args.journal.now)
    (g.S.Source.faults c.read_all.new.source) in
    let bytes = c.in-Ok.bytes.items in
    let told = taken_text bytes _ _ c.in-Ok.ensures.whole in
    if_ok-map c.text_due.result _ _
    (λ due is. due-read c.args.accepted.now c.args.script.now bytes source due told is)
    (rw c.deref.ensures.value at (c.text_due.ensures.ok source.counts))

pub returns-in-Ok-clause-legal : goal.returns-in-Ok-clause-legal
returns-in-Ok-clause-legal g c = λ v kept text e is.
    let same = taken-same c.in-Ok.bytes.items text _ _ c.in-Ok.ensures.whole e in
    (rw c.deref.ensures.value at c.text_due.ensures.legal) v kept (rw same is)

pub returns-in-Err-TooLong-clause-ok : goal.returns-in-Err-TooLong-clause-ok
returns-in-Err-TooLong-clause-ok g c =
    let source = source_state (g.S.Source.left c.args.journal.now) (g.S.Source.faults c.args.journal.now)
    (g.S.Source.faults c.read_all.new.source) in
    let t = long_text max_bytes _ _ (c.in-Err-TooLong.ensures.too_long (cc)) in
    due-refused c.args.accepted.now c.args.script.now source t.0 error.TooLong c.refused_due.result t.1
    (answers.too_long t.2) c.refused_due.ensures.ok c.refused_due.ensures.known

pub returns-in-Err-TooLong-clause-legal : goal.returns-in-Err-TooLong-clause-legal
returns-in-Err-TooLong-clause-legal g c = λ v kept text e is.
    let over = taken-within max_bytes text _ _ (c.in-Err-TooLong.ensures.too_long (cc)) e in
    let within = text-within c.know.ensures.accepted c.items-items.ensures.size
    c.items-items.ensures.written v kept text is in
    absurd (omega (arith, over, within))

pub returns-in-Err-ReadFault-clause-ok : goal.returns-in-Err-ReadFault-clause-ok
returns-in-Err-ReadFault-clause-ok g c =
    let source = source_state (g.S.Source.left c.args.journal.now) (g.S.Source.faults c.args.journal.now)
    (g.S.Source.faults c.read_all.new.source) in
    let t = some_text source.left in
    if_ok-map c.line_due.result _ _
    (λ due bare. due-fault c.args.accepted.now c.args.script.now source t.0 _ due
    (replays.fault (c.in-Err-ReadFault.ensures.fault_rose (cc))) t.1 bare)
    c.line_due.ensures.ok
