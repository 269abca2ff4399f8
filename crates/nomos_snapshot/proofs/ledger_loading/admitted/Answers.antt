-- The state is asked about first.
use Rattle.nomos_snapshot.proofs.LoadLemmas.{asked-first, unsound-admits}
use Rattle.nomos_snapshot.proofs.ledger_loading.admitted.Goals as goal

pub returns-then-not-sound-clause-err : goal.returns-then-not-sound-clause-err
returns-then-not-sound-clause-err g c = λ other.
    unsound-admits c.args.parts (asked-first c.in_ok-sound.sound c.in_ok-sound.ensures c.if-not-sound.true)

pub opened-requires-clause-sound : goal.opened-requires-clause-sound
opened-requires-clause-sound g c = c.in_ok-sound.ensures.0 c.if-not-sound.false
