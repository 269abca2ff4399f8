use Rattle.std.proofs.Common.{sym, ap, ◌∙◌}
use Rattle.nomos_slots.specs.Marking.{Marking}
use Rattle.nomos_slots.proofs.MarkLemmas.{kept_cut, marked_back}
use Rattle.nomos_slots.proofs.column.Column.back.Goals as goal

pub put_back-requires-clause-kept : goal.put_back-requires-clause-kept
put_back-requires-clause-kept g c =
    let s = c.self.inside in
    let is = c.in-Some.is in
    let cut = c.truncate.ensures.items in
    kept_cut s.items.items _ s.log.items _ s.marked c.in-Some.len c.self.invariant is cut c.as_slice.ensures.value

pub returns-in-Some-clause-now : goal.returns-in-Some-clause-now
returns-in-Some-clause-now g c =
    let s = c.self.inside in
    let is = c.in-Some.is in
    let cut = c.truncate.ensures.items in
    let log = c.as_slice.ensures.value in
    sym (ap (λ (m : Marking _). m.marked) c.self.view_is)
    ∙ marked_back s.items.items _ s.log.items _ s.marked c.in-Some.len _ is cut log c.put_back.ensures.records
