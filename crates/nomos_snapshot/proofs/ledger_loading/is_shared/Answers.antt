-- The mode of a type is looked up.
use Rattle.nomos_snapshot.proofs.LoadLemmas.{never, no-shared_name, shared-name}
use Rattle.nomos_snapshot.proofs.ledger_loading.is_shared.Goals as goal

pub returns-in-Some : goal.returns-in-Some
returns-in-Some g c =
    shared-name c.args.modes.now c.args.name c.in-Some.t c.is_of_mode_s.result c.know.ensures.accepted
    c.requires c.in-Some.ensures c.is_of_mode_s.ensures

pub returns-in-None : goal.returns-in-None
returns-in-None g c = never (no-shared_name c.args.name c.in-None.ensures)
