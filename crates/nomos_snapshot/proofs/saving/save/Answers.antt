-- A ledger that stands has emitted nothing, and has nothing outside.
use Rattle.std.proofs.Common.{◌∙◌, ap}
use Rattle.nomos_machine.specs.State.{State}
use Rattle.nomos_snapshot.proofs.saving.save.Goals as goal

pub data-requires-clause-results : goal.data-requires-clause-results
data-requires-clause-results g c =
    ap (λ (s : State). s.results) c.state.ensures ∙ c.requires.settled.results

pub data-requires-clause-outside : goal.data-requires-clause-outside
data-requires-clause-outside g c =
    ap (λ (s : State). s.outside) c.state.ensures ∙ c.requires.settled.outside

pub save_data-requires-clause-state : goal.save_data-requires-clause-state
save_data-requires-clause-state g c = c.in_ok-contents.ensures ∙ c.state.ensures
