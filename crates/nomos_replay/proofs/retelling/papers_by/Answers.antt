use Rattle.nomos_replay.proofs.VersionOneLemmas.{kept-legal}
use Rattle.nomos_replay.proofs.WalkLemmas.{legal-papers, legal-refused}
use Rattle.nomos_replay.proofs.retelling.papers_by.Goals as goal

pub no_memory-requires : goal.no_memory-requires
no_memory-requires g c =
    let accepted = c.know.ensures.accepted in
    let script = c.items-items.ensures in
    legal-refused c.args.accepted.now c.args.from c.args.asked.script.now c.deref.result.now accepted c.args.journal.now
    (kept-legal accepted c.requires.stands c.account-account.ensures.ledger c.requires.numbers script.size
    script.written
    c.requires.legal c.unit.ensures c.in_ok-text.ensures c.deref.ensures.value)
    c.in-Err.why c.in-Err.ensures

pub returns-in-Ok : goal.returns-in-Ok
returns-in-Ok g c =
    let accepted = c.know.ensures.accepted in
    let script = c.items-items.ensures in
    legal-papers c.args.accepted.now c.args.from c.args.asked.script.now c.deref.result.now c.in-Ok.ensures accepted
    c.args.journal.now
    (kept-legal accepted c.requires.stands c.account-account.ensures.ledger c.requires.numbers script.size
    script.written
    c.requires.legal c.unit.ensures c.in_ok-text.ensures c.deref.ensures.value)
