use Rattle.std.proofs.Common.{◌≡◌, ◌<◌, Some, [], length, set, get_or, slice_get, slice_index, refl, subst, sym, ap, ◌∙◌, arith}
use Rattle.std.specs.List.{remove}
use Rattle.std.proofs.lemmas.List.{length-map}
use Rattle.std.proofs.lemmas.Option.{slice_get-get_or}
use Rattle.std.proofs.Math.Seq.{map-set_same}
use Rattle.nomos_slots.specs.Rows.{IsFree, rows_of}
use Rattle.nomos_slots.specs.Shelving.{Shelving}
use Rattle.nomos_slots.specs.declared.shelf.ShelfRow.{ShelfRow}
use Rattle.nomos_slots.proofs.RowLemmas.{row-read, rows-set}
use Rattle.nomos_slots.proofs.ShelfLemmas.{free-from_seen, shelf-same, marked-free, spares-more}
use Rattle.nomos_slots.proofs.shelf.Shelf.remove.Goals as goal

pub invariant_of-self : goal.invariant_of-self
invariant_of-self g c =
    let s = c.self.inside in
    let at = c.args.place in
    let v = ap (λ (m : Shelving _). length m.now) c.self.view_is in
    let l : at < length s.rows.items = omega (
      arith,
      v,
      c.requires.within,
      length-map s.rows.items (λ (r : ShelfRow _). r.items.items),
    ) in
    shelf-same s.rows.items s.log.items s.marked at c.index_mut.result.now _ c.self.invariant l
    c.index_mut.ensures.value refl

pub returns-clause-item : goal.returns-clause-item
returns-clause-item g c =
    let s = c.self.inside in
    let at = c.args.place in
    let v = ap (λ (m : Shelving _). length m.now) c.self.view_is in
    let l : at < length s.rows.items = omega (
      arith,
      v,
      c.requires.within,
      length-map s.rows.items (λ (r : ShelfRow _). r.items.items),
    ) in
    let read = row-read s.rows.items at c.index_mut.result.now l c.index_mut.ensures.value in
    let same : get_or c.args.self.now.now at [] ≡ c.index_mut.result.now.items.items =
    ap (λ (m : Shelving _). get_or m.now at []) (sym c.self.view_is) ∙ read in
    let within : c.args.at < length c.index_mut.result.now.items.items = omega (arith, c.requires.at, ap length same) in
    ap (λ xs. slice_get xs c.args.at) same
    ∙ slice_get-get_or c.index_mut.result.now.items.items c.args.at c.remove.result within
    ∙ ap Some (sym c.remove.ensures.value)

pub returns-clause-now : goal.returns-clause-now
returns-clause-now g c =
    let s = c.self.inside in
    let at = c.args.place in
    let v = ap (λ (m : Shelving _). length m.now) c.self.view_is in
    let l : at < length s.rows.items = omega (
      arith,
      v,
      c.requires.within,
      length-map s.rows.items (λ (r : ShelfRow _). r.items.items),
    ) in
    let read = row-read s.rows.items at c.index_mut.result.now l c.index_mut.ensures.value in
    rows-set s.rows.items at _
    ∙ ap (set (rows_of s.rows.items) at) (c.remove.ensures.items ∙ ap (λ xs. remove xs c.args.at) (sym read))
    ∙ ap (λ (m : Shelving _). set m.now at (remove (get_or m.now at []) c.args.at)) c.self.view_is

pub returns-clause-marked : goal.returns-clause-marked
returns-clause-marked g c =
    let s = c.self.inside in
    let at = c.args.place in
    let v = ap (λ (m : Shelving _). length m.now) c.self.view_is in
    let l : at < length s.rows.items = omega (
      arith,
      v,
      c.requires.within,
      length-map s.rows.items (λ (r : ShelfRow _). r.items.items),
    ) in
    let free = free-from_seen s.rows s.log s.marked at c.self.invariant.within
    (subst (λ (m : Shelving _). IsFree m at) (sym c.self.view_is) c.requires.free) in
    marked-free s.rows.items s.log.items s.marked at _ c.self.invariant l free
    ∙ ap (λ (m : Shelving _). m.marked) c.self.view_is

pub returns-clause-freed : goal.returns-clause-freed
returns-clause-freed g c =
    map-set_same (λ (r : ShelfRow _). r.freed) c.self.inside.rows.items c.args.place _ _
    (ap (λ (r : ShelfRow _). r.freed) c.index_mut.ensures.value)
    ∙ ap (λ (m : Shelving _). m.freed) c.self.view_is

pub returns-clause-spares : goal.returns-clause-spares
returns-clause-spares g c other =
    let s = c.self.inside in
    let at = c.args.place in
    let v = ap (λ (m : Shelving _). length m.now) c.self.view_is in
    let l : at < length s.rows.items = omega (
      arith,
      v,
      c.requires.within,
      length-map s.rows.items (λ (r : ShelfRow _). r.items.items),
    ) in
    let e = spares-more s.rows.items at 0 other c.index_mut.result.now
    (record { items = c.remove.new.self; freed = c.index_mut.result.now.freed })
    l c.index_mut.ensures.value (omega arith) in
    let w = ap (λ (m : Shelving _). slice_index m.spares other) c.self.view_is in
    omega (arith, e, w)
