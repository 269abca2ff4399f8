-- What the text tells is admitted or not.
use Rattle.nomos_snapshot.proofs.LoadLemmas.{parts-named, parts-sorted, told-admitted, told-refused}
use Rattle.nomos_snapshot.proofs.ledger_loading.loaded.Goals as goal

pub admitted-requires-clause-sorted : goal.admitted-requires-clause-sorted
admitted-requires-clause-sorted g c = parts-sorted c.in_ok-parts.parts c.in_ok-parts.ensures.ok

pub admitted-requires-clause-named : goal.admitted-requires-clause-named
admitted-requires-clause-named g c = parts-named c.in_ok-parts.parts c.in_ok-parts.ensures.ok

pub returns-clause-ok : goal.returns-clause-ok
returns-clause-ok g c = told-admitted c.in_ok-parts.parts c.admitted.result c.in_ok-parts.ensures.ok
    c.admitted.ensures.ok

pub returns-clause-err : goal.returns-clause-err
returns-clause-err g c = told-refused c.in_ok-parts.parts c.admitted.result c.in_ok-parts.ensures.ok
    c.admitted.ensures.err
