use Rattle.std.proofs.Common.{Some, List, sym, ap, ◌∙◌}
use Rattle.nomos_slots.specs.Rows.{is_freed, undo}
use Rattle.nomos_slots.specs.Shelving.{Shelving}
use Rattle.nomos_slots.specs.declared.shelf.ShelfRow.{ShelfRow}
use Rattle.nomos_slots.proofs.ShelfLemmas.{rows-cut, marked_in, is_freed-take}
use Rattle.nomos_slots.proofs.shelf.Shelf.back.Goals as goal

pub undo_all-requires-clause-covered : goal.undo_all-requires-clause-covered
undo_all-requires-clause-covered g c place freed =
    let s = c.self.inside in
    c.self.invariant.covered place
    (is_freed-take s.rows.items c.in-Some.len place
    (sym (ap (λ (rs : List (ShelfRow _)). is_freed rs place) c.truncate.ensures.items) ∙ freed))

pub returns-clause-now : goal.returns-clause-now
returns-clause-now g c =
    let s = c.self.inside in
    let n = c.in-Some.len in
    sym (ap (λ (m : Shelving _). m.marked) c.self.view_is)
    ∙ ap (marked_in s.rows.items s.log.items) c.in-Some.is
    ∙ ap Some (ap (undo s.log.items) (sym (rows-cut s.rows.items _ n c.truncate.ensures.items))
    ∙ sym c.undo_all.ensures.rows)
