use Rattle.std.proofs.Common.{take, sym, ap, subst, ◌∙◌}
use Rattle.nomos_slots.specs.Marking.{Marking}
use Rattle.nomos_slots.proofs.MarkLemmas.{HasMarkedWithin, IsSound_cut, records_cut, marked_cut}
use Rattle.nomos_slots.proofs.column.Column.truncate.Goals as goal

pub invariant_of-self : goal.invariant_of-self
invariant_of-self g c =
    let s = c.self.inside in
    let n = c.args.len in
    let fits = subst (λ (m : Marking _). HasMarkedWithin n m.marked) (sym c.self.view_is) c.requires in
    IsSound_cut s.items.items _ s.log.items s.marked n c.self.invariant fits c.truncate.ensures.items

pub returns-clause-now : goal.returns-clause-now
returns-clause-now g c =
    let n = c.args.len in
    records_cut c.self.inside.items.items _ n c.truncate.ensures.items
    ∙ ap (λ (m : Marking _). take n m.now) c.self.view_is

pub returns-clause-marked : goal.returns-clause-marked
returns-clause-marked g c =
    let s = c.self.inside in
    let n = c.args.len in
    let fits = subst (λ (m : Marking _). HasMarkedWithin n m.marked) (sym c.self.view_is) c.requires in
    marked_cut s.items.items _ s.log.items s.marked n c.self.invariant fits c.truncate.ensures.items
    ∙ ap (λ (m : Marking _). m.marked) c.self.view_is
