use Rattle.std.proofs.Common.{◌<◌, length, set, refl, inl, subst, sym, ap, ◌∙◌, arith}
use Rattle.std.proofs.lemmas.List.{length-map}
use Rattle.std.specs.Global.{Vec}
use Rattle.nomos_slots.specs.Rows.{IsFree, rows_of}
use Rattle.nomos_slots.specs.Shelving.{Shelving}
use Rattle.nomos_slots.specs.declared.shelf.ShelfRow.{ShelfRow}
use Rattle.nomos_slots.proofs.RowLemmas.{rows-set}
use Rattle.nomos_slots.proofs.ShelfLemmas.{free-from_seen, shelf-same, marked-free}
use Rattle.nomos_slots.proofs.shelf.Shelf.replace_late.Goals as goal

pub invariant_of-self : goal.invariant_of-self
invariant_of-self g c =
    let s = c.self.inside in
    let at = c.args.place in
    let v = ap (λ (m : Shelving _). length m.now) c.self.view_is in
    let l : at < length s.rows.items =
    omega (arith, v, c.requires.within, length-map s.rows.items (λ (r : ShelfRow _). r.items.items)) in
    shelf-same s.rows.items s.log.items s.marked at c.index_mut.result.now _ c.self.invariant l
    c.index_mut.ensures.value refl

pub returns-clause-now : goal.returns-clause-now
returns-clause-now g c =
    rows-set c.self.inside.rows.items c.args.place _
    ∙ ap (λ (row : Vec _). set (rows_of c.self.inside.rows.items) c.args.place row.items) c.replace.ensures.after
    ∙ ap (λ (m : Shelving _). set m.now c.args.place c.args.row.items) c.self.view_is

pub returns-clause-marked : goal.returns-clause-marked
returns-clause-marked g c =
    let s = c.self.inside in
    let at = c.args.place in
    let v = ap (λ (m : Shelving _). length m.now) c.self.view_is in
    let l : at < length s.rows.items =
    omega (arith, v, c.requires.within, length-map s.rows.items (λ (r : ShelfRow _). r.items.items)) in
    let free = free-from_seen s.rows s.log s.marked at c.self.invariant.within
    (subst (λ (m : Shelving _). IsFree m at) (sym c.self.view_is) (inl c.requires.late)) in
    marked-free s.rows.items s.log.items s.marked at _ c.self.invariant l free
    ∙ ap (λ (m : Shelving _). m.marked) c.self.view_is
