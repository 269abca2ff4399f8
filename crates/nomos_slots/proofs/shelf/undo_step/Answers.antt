use Rattle.std.proofs.Common.{◌<◌, sym, ap, ◌∙◌, refl, length, set, arith}
use Rattle.std.specs.List.{remove}
use Rattle.nomos_slots.specs.Rows.{has_all, rows_of, undone, place_of}
use Rattle.nomos_slots.specs.declared.shelf.ShelfStep.{ShelfStep}
use Rattle.nomos_slots.proofs.RowLemmas.{row-read, rows-set, is_freed-set_same, freed-replaced}
use Rattle.nomos_slots.proofs.shelf.undo_step.Goals as goal

pub returns-then-at-len-clause-rows : goal.returns-then-at-len-clause-rows
returns-then-at-len-clause-rows g c =
    let rows = c.args.rows.now.items in
    let place = c.in-Added.place in
    let at = c.in-Added.at in
    let l : place < length rows = omega (arith, ap place_of c.in-Added.is, c.requires, c.args.rows.now.ok.0) in
    rows-set rows place _
    ∙ ap (set (rows_of rows) place) (c.remove-item.ensures.items
    ∙ ap (λ xs. remove xs at) (sym (row-read rows place _ l c.index_mut.ensures.value)))
    ∙ ap (λ (e : ShelfStep _). undone e (rows_of rows)) (sym c.in-Added.is)

pub returns-then-at-len-clause-freed : goal.returns-then-at-len-clause-freed
returns-then-at-len-clause-freed g c place freed =
    let rows = c.args.rows.now.items in
    let at = c.in-Added.place in
    let l : at < length rows = omega (arith, ap place_of c.in-Added.is, c.requires, c.args.rows.now.ok.0) in (
      sym (is_freed-set_same rows at place _ _ l c.index_mut.ensures.value refl) ∙ freed,
      ap (has_all place) c.in-Added.is,
    )

pub returns-in-Replaced-clause-rows : goal.returns-in-Replaced-clause-rows
returns-in-Replaced-clause-rows g c =
    let rows = c.args.rows.now.items in
    rows-set rows c.in-Replaced.place _ ∙ ap (λ (e : ShelfStep _). undone e (rows_of rows)) (sym c.in-Replaced.is)

pub returns-in-Replaced-clause-freed : goal.returns-in-Replaced-clause-freed
returns-in-Replaced-clause-freed g c place freed =
    let rows = c.args.rows.now.items in
    let at = c.in-Replaced.place in
    let l : at < length rows = omega (arith, ap place_of c.in-Replaced.is, c.requires, c.args.rows.now.ok.0) in
    freed-replaced rows at place _ c.args.step l refl freed (ap (has_all place) c.in-Replaced.is)
