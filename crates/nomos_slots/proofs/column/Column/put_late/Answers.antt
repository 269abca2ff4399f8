use Rattle.std.proofs.Common.{◌<◌, sym, subst, ap, ◌∙◌, length, set, arith}
use Rattle.std.proofs.lemmas.List.{length-map}
use Rattle.nomos_slots.specs.Marking.{Marking}
use Rattle.nomos_slots.specs.declared.column.Logged.{Logged}
use Rattle.nomos_slots.proofs.MarkLemmas.{HasMarkedWithin, records-set, marked_again, IsSound_again, mark_len_fits}
use Rattle.nomos_slots.proofs.SeatLemmas.{not_kept_past}
use Rattle.nomos_slots.proofs.column.Column.put_late.Goals as goal

pub invariant_of-self : goal.invariant_of-self
invariant_of-self g c =
    let s = c.self.inside in
    let at = c.args.place in
    let es = s.items.items in
    let v = ap (λ (m : Marking _). length m.now) c.self.view_is in
    let l : at < length es = omega (arith, v, c.requires.within, length-map es (λ (e : Logged _). e.item)) in
    let late = subst (λ (m : Marking _). HasMarkedWithin at m.marked) (sym c.self.view_is) c.requires.late in
    IsSound_again es s.log.items s.marked at _ c.self.invariant
    (not_kept_past es s.log.items s.marked at c.self.invariant
    (mark_len_fits es s.log.items s.marked at c.self.invariant late)) l

pub returns-clause-now : goal.returns-clause-now
returns-clause-now g c =
    records-set c.self.inside.items.items c.args.place _
    ∙ ap (λ (m : Marking _). set m.now c.args.place c.args.item) c.self.view_is

pub returns-clause-marked : goal.returns-clause-marked
returns-clause-marked g c =
    let s = c.self.inside in
    let at = c.args.place in
    let es = s.items.items in
    let late = subst (λ (m : Marking _). HasMarkedWithin at m.marked) (sym c.self.view_is) c.requires.late in
    let past = mark_len_fits es s.log.items s.marked at c.self.invariant late in
    marked_again es s.log.items s.marked at _ c.self.invariant (λ below. absurd (omega arith))
    ∙ ap (λ (m : Marking _). m.marked) c.self.view_is
