use Rattle.nomos_ready.proofs.SeekLemmas.{any-of_next}
use Rattle.nomos_ready.proofs.seeking.any_ready.Goals as goal

pub returns-in-None-clause-any : goal.returns-in-None-clause-any
returns-in-None-clause-any g c =
    any-of_next c.know.ensures.accepted c.requires.typed c.next_ready.result c.next_ready.ensures.next
