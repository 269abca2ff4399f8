use Rattle.std.proofs.Common.{◌∙◌, None, List, ap}
use Rattle.nomos_slots.specs.Numbers.{numbers}
use Rattle.nomos_slots.specs.declared.numbered.Slot.{Slot}
use Rattle.nomos_slots.proofs.NumberLaws.{numbers-put_at}
use Rattle.nomos_state.specs.Tallying.{tallied}
use Rattle.nomos_state.specs.declared.tally.Tally.{Tally}
use Rattle.nomos_state.proofs.TallyLemmas.{gone-counted}
use Rattle.nomos_state.proofs.tallies.Tallies.leave.Goals as goal

pub returns-in-Some-clause-order : goal.returns-in-Some-clause-order
returns-in-Some-clause-order c =
    ap numbers c.put.ensures.now ∙ numbers-put_at c.args.self.now.names.now c.in-Some.place None

pub returns-in-Some-clause-counts : goal.returns-in-Some-clause-counts
returns-in-Some-clause-counts c d n =
    ap (λ (ts : List (Slot Tally)). tallied ts d n) c.put.ensures.now
    ∙ gone-counted c.args.self.now.names.now c.requires.order c.in-Some.place c.args.name c.in-Some.field-0-1
    c.in-Some.field-0-1
    c.in-Some.ensures c.requires.idle d n
