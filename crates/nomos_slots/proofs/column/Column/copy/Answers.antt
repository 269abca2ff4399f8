use Rattle.std.proofs.Common.{ap, ◌∙◌}
use Rattle.nomos_slots.specs.Log.{records}
use Rattle.nomos_slots.specs.Marking.{Marking}
use Rattle.nomos_slots.proofs.LogLemmas.{records-unkept}
use Rattle.nomos_slots.proofs.MarkLemmas.{IsSound_unkept}
use Rattle.nomos_slots.proofs.column.Column.copy.Goals as goal

pub invariant_of-result : goal.invariant_of-result
invariant_of-result g c = IsSound_unkept _ _ _ c.in_ok-unkept.ensures c.new.ensures.items

pub returns-clause-now : goal.returns-clause-now
returns-clause-now g c =
    ap records c.in_ok-unkept.ensures
    ∙ records-unkept c.as_slice.result.now
    ∙ ap records c.as_slice.ensures.value
    ∙ ap (λ (m : Marking _). m.now) c.self.view_is
