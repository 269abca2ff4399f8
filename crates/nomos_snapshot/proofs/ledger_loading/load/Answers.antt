-- One thing is answered of a text, and a ledger that is loaded from it stands.
use Rattle.nomos_snapshot.proofs.LoadLemmas.{answers-again, answers-only, answers-whole, loaded-numbers, loaded-stands, loaded-text}
use Rattle.nomos_snapshot.proofs.ledger_loading.load.Goals as goal

pub returns-clause-only : goal.returns-clause-only
returns-clause-only g c =
    answers-only c.args.text.now c.know.ensures.accepted c.loaded.result c.loaded.ensures.ok
    c.loaded.ensures.err

pub returns-clause-text : goal.returns-clause-text
returns-clause-text g c = loaded-text c.args.text.now c.know.ensures.accepted c.loaded.result
    c.loaded.ensures.ok

pub returns-clause-stands : goal.returns-clause-stands
returns-clause-stands g c = loaded-stands c.args.text.now c.know.ensures.accepted c.loaded.result
    c.loaded.ensures.ok

pub returns-clause-numbers : goal.returns-clause-numbers
returns-clause-numbers g c = loaded-numbers c.args.text.now c.know.ensures.accepted c.loaded.result
    c.loaded.ensures.ok

pub returns-clause-again : goal.returns-clause-again
returns-clause-again g c =
    answers-again c.args.text.now c.know.ensures.accepted c.loaded.result c.loaded.ensures.ok
    c.loaded.ensures.err

pub returns-clause-whole : goal.returns-clause-whole
returns-clause-whole g c =
    answers-whole c.args.text.now c.know.ensures.accepted c.loaded.result c.loaded.ensures.ok
    c.loaded.ensures.err
