use Rattle.std.proofs.Common.{◌≤◌, IfSome, length, take, subst, sym, ap, ◌∙◌}
use Rattle.nomos_slots.specs.Shelving.{Shelving}
use Rattle.nomos_slots.proofs.ShelfLemmas.{shelf-cut, rows-cut, marked-cut, late-from_seen}
use Rattle.nomos_slots.proofs.shelf.Shelf.truncate.Goals as goal

pub invariant_of-self : goal.invariant_of-self
invariant_of-self g c =
    let s = c.self.inside in
    let n = c.args.len in
    let fits = subst (λ (m : Shelving _). IfSome m.marked (λ rs. length rs ≤ n)) (sym c.self.view_is) c.requires in
    let past = late-from_seen s.rows.items s.log.items s.marked n c.self.invariant.within fits in
    shelf-cut s.rows.items _ s.log.items s.marked n c.self.invariant past c.truncate.ensures.items

pub returns-clause-now : goal.returns-clause-now
returns-clause-now g c =
    let n = c.args.len in
    rows-cut c.self.inside.rows.items _ n c.truncate.ensures.items
    ∙ ap (λ (m : Shelving _). take n m.now) c.self.view_is

pub returns-clause-marked : goal.returns-clause-marked
returns-clause-marked g c =
    let s = c.self.inside in
    let n = c.args.len in
    let fits = subst (λ (m : Shelving _). IfSome m.marked (λ rs. length rs ≤ n)) (sym c.self.view_is) c.requires in
    let past = late-from_seen s.rows.items s.log.items s.marked n c.self.invariant.within fits in
    marked-cut s.rows.items _ s.log.items s.marked n past c.truncate.ensures.items
    ∙ ap (λ (m : Shelving _). m.marked) c.self.view_is
