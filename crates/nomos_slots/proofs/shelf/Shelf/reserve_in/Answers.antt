use Rattle.std.proofs.Common.{◌<◌, length, slice_index, refl, ap, ◌∙◌, rules, arith}
use Rattle.std.proofs.lemmas.List.{length-map}
use Rattle.std.proofs.Math.Seq.{map-set_same}
use Rattle.nomos_slots.specs.Shelving.{Shelving}
use Rattle.nomos_slots.specs.declared.shelf.ShelfRow.{ShelfRow}
use Rattle.nomos_slots.proofs.ShelfLemmas.{shelf-same, marked-same, spares-more, spares-at}
use Rattle.nomos_slots.proofs.shelf.Shelf.reserve_in.Goals as goal

pub invariant_of-self : goal.invariant_of-self
invariant_of-self g c =
    let s = c.self.inside in
    let at = c.args.place in
    let v = ap (λ (m : Shelving _). length m.now) c.self.view_is in
    let l : at < length s.rows.items = omega (
      arith,
      v,
      c.requires,
      length-map s.rows.items (λ (r : ShelfRow _). r.items.items),
    ) in
    shelf-same s.rows.items s.log.items s.marked at c.index_mut.result.now _ c.self.invariant l
    c.index_mut.ensures.value refl

pub returns-clause-now : goal.returns-clause-now
returns-clause-now g c =
    let s = c.self.inside in
    map-set_same (λ (r : ShelfRow _). r.items.items) s.rows.items c.args.place _ _
    (c.reserve.ensures.items ∙ ap (λ (r : ShelfRow _). r.items.items) c.index_mut.ensures.value)
    ∙ ap (λ (m : Shelving _). m.now) c.self.view_is

pub returns-clause-marked : goal.returns-clause-marked
returns-clause-marked g c =
    let s = c.self.inside in
    marked-same s.rows.items s.log.items s.marked c.args.place c.index_mut.result.now _ c.index_mut.ensures.value
    c.reserve.ensures.items
    ∙ ap (λ (m : Shelving _). m.marked) c.self.view_is

pub returns-clause-freed : goal.returns-clause-freed
returns-clause-freed g c =
    let s = c.self.inside in
    map-set_same (λ (r : ShelfRow _). r.freed) s.rows.items c.args.place _ _
    (ap (λ (r : ShelfRow _). r.freed) c.index_mut.ensures.value)
    ∙ ap (λ (m : Shelving _). m.freed) c.self.view_is

pub returns-clause-ok : goal.returns-clause-ok
returns-clause-ok g c =
    let s = c.self.inside in
    let at = c.args.place in
    let v = ap (λ (m : Shelving _). length m.now) c.self.view_is in
    let l : at < length s.rows.items = omega (
      arith,
      v,
      c.requires,
      length-map s.rows.items (λ (r : ShelfRow _). r.items.items),
    ) in
    let e = spares-at s.rows.items at (record { items = c.reserve.new.self; freed = c.index_mut.result.now.freed }) l in
    search (rules, e)

pub returns-clause-spares : goal.returns-clause-spares
returns-clause-spares g c other =
    let s = c.self.inside in
    let at = c.args.place in
    let v = ap (λ (m : Shelving _). length m.now) c.self.view_is in
    let l : at < length s.rows.items = omega (
      arith,
      v,
      c.requires,
      length-map s.rows.items (λ (r : ShelfRow _). r.items.items),
    ) in
    let e = spares-more s.rows.items at 0 other c.index_mut.result.now
    (record { items = c.reserve.new.self; freed = c.index_mut.result.now.freed })
    l c.index_mut.ensures.value (omega arith) in
    let w = ap (λ (m : Shelving _). slice_index m.spares other) c.self.view_is in
    omega (arith, e, w)
