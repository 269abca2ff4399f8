use Rattle.std.proofs.Common.{◌≤◌, ◌<◌, [], length, set, get_or, slice_index, refl, inl, subst, sym, ap, ◌∙◌, arith}
use Rattle.std.specs.List.{insert}
use Rattle.std.proofs.lemmas.List.{length-map}
use Rattle.std.proofs.lemmas.Bool.{both_ways}
use Rattle.std.proofs.Math.Seq.{map-set_same}
use Rattle.nomos_slots.specs.Rows.{IsFree, rows_of, undone}
use Rattle.nomos_slots.specs.Shelving.{Shelving}
use Rattle.nomos_slots.specs.declared.shelf.ShelfRow.{ShelfRow}
use Rattle.nomos_slots.specs.declared.shelf.ShelfStep.TheVariants as step
use Rattle.nomos_slots.proofs.RowLemmas.{row-read, rows-set}
use Rattle.nomos_slots.proofs.ShelfLemmas.{free-from_seen, shelf-same, marked-free, shelf-logged, marked-logged_any, back-added, spares-more, below-not_free}
use Rattle.nomos_slots.proofs.shelf.Shelf.insert.Goals as goal

pub invariant_of-self : goal.invariant_of-self
invariant_of-self g c =
    let s = c.self.inside in
    let at = c.args.place in
    let v = ap (λ (m : Shelving _). length m.now) c.self.view_is in
    let l : at < length s.rows.items = omega (
      arith,
      v,
      c.requires.within,
      length-map s.rows.items (λ (r : ShelfRow _). r.items.items),
    ) in
    let bound = below-not_free s.rows s.log s.marked at c.self.invariant.within
    (λ free. absurd (both_ways _ c.if-not-free.true
    (c.is_free-free.ensures.1 (subst (λ (m : Shelving _). IsFree m at) c.self.view_is free)))) in
    shelf-logged s.rows.items s.log.items _ s.marked at (step.Added at c.args.at) c.index_mut.result.now _
    c.self.invariant l
    c.index_mut.ensures.value bound c.push_reserved.ensures.items refl (inl refl)

pub invariant_of-self-else-not-free : goal.invariant_of-self-else-not-free
invariant_of-self-else-not-free g c =
    let s = c.self.inside in
    let at = c.args.place in
    let v = ap (λ (m : Shelving _). length m.now) c.self.view_is in
    let l : at < length s.rows.items = omega (
      arith,
      v,
      c.requires.within,
      length-map s.rows.items (λ (r : ShelfRow _). r.items.items),
    ) in
    shelf-same s.rows.items s.log.items s.marked at c.index_mut.result.now _ c.self.invariant l
    c.index_mut.ensures.value refl

pub returns-then-not-free-clause-now : goal.returns-then-not-free-clause-now
returns-then-not-free-clause-now g c =
    let s = c.self.inside in
    let at = c.args.place in
    let v = ap (λ (m : Shelving _). length m.now) c.self.view_is in
    let l : at < length s.rows.items = omega (
      arith,
      v,
      c.requires.within,
      length-map s.rows.items (λ (r : ShelfRow _). r.items.items),
    ) in
    let read = row-read s.rows.items at c.index_mut.result.now l c.index_mut.ensures.value in
    rows-set s.rows.items at _
    ∙ ap (set (rows_of s.rows.items) at) (c.put_in.ensures.items ∙ ap (λ xs. insert xs c.args.at c.args.item)
    (sym read))
    ∙ ap (λ (m : Shelving _). set m.now at (insert (get_or m.now at []) c.args.at c.args.item)) c.self.view_is

pub returns-then-not-free-clause-marked : goal.returns-then-not-free-clause-marked
returns-then-not-free-clause-marked g c =
    let s = c.self.inside in
    let at = c.args.place in
    let v = ap (λ (m : Shelving _). length m.now) c.self.view_is in
    let l : at < length s.rows.items = omega (
      arith,
      v,
      c.requires.within,
      length-map s.rows.items (λ (r : ShelfRow _). r.items.items),
    ) in
    let bound = below-not_free s.rows s.log s.marked at c.self.invariant.within
    (λ free. absurd (both_ways _ c.if-not-free.true
    (c.is_free-free.ensures.1 (subst (λ (m : Shelving _). IsFree m at) c.self.view_is free)))) in
    let r : ShelfRow _ = record { items = c.put_in.new.items; freed = c.index_mut.result.now.freed } in
    let read = row-read s.rows.items at c.index_mut.result.now l c.index_mut.ensures.value in
    let old = c.index_mut.result.now.items.items in
    let le : c.args.at ≤ length old = omega (
      arith,
      c.requires.at,
      ap length read,
      ap (λ (m : Shelving _). length (get_or m.now at [])) c.self.view_is,
    ) in
    marked-logged_any s.rows.items s.log.items _ s.marked at (step.Added at c.args.at) r bound c.self.invariant.within
    c.push_reserved.ensures.items
    (λ rs within same. ap (λ xs. undone (step.Added at c.args.at) (set rs at xs)) c.put_in.ensures.items
    ∙ back-added rs at c.args.at c.args.item old (same ∙ read) within le)
    ∙ ap (λ (m : Shelving _). m.marked) c.self.view_is

pub returns-then-not-free-clause-freed : goal.returns-then-not-free-clause-freed
returns-then-not-free-clause-freed g c =
    map-set_same (λ (r : ShelfRow _). r.freed) c.self.inside.rows.items c.args.place _ _
    (ap (λ (r : ShelfRow _). r.freed) c.index_mut.ensures.value)
    ∙ ap (λ (m : Shelving _). m.freed) c.self.view_is

pub returns-then-not-free-clause-spares : goal.returns-then-not-free-clause-spares
returns-then-not-free-clause-spares g c other =
    let s = c.self.inside in
    let at = c.args.place in
    let v = ap (λ (m : Shelving _). length m.now) c.self.view_is in
    let l : at < length s.rows.items = omega (
      arith,
      v,
      c.requires.within,
      length-map s.rows.items (λ (r : ShelfRow _). r.items.items),
    ) in
    let r : ShelfRow _ = record { items = c.put_in.new.items; freed = c.index_mut.result.now.freed } in
    let e = spares-more s.rows.items at 1 other c.index_mut.result.now r l c.index_mut.ensures.value (omega arith) in
    let w = ap (λ (m : Shelving _). slice_index m.spares other) c.self.view_is in
    omega (arith, e, w)

pub returns-else-not-free-clause-now : goal.returns-else-not-free-clause-now
returns-else-not-free-clause-now g c =
    let s = c.self.inside in
    let at = c.args.place in
    let v = ap (λ (m : Shelving _). length m.now) c.self.view_is in
    let l : at < length s.rows.items = omega (
      arith,
      v,
      c.requires.within,
      length-map s.rows.items (λ (r : ShelfRow _). r.items.items),
    ) in
    let read = row-read s.rows.items at c.index_mut.result.now l c.index_mut.ensures.value in
    rows-set s.rows.items at _
    ∙ ap (set (rows_of s.rows.items) at) (c.put_in.ensures.items ∙ ap (λ xs. insert xs c.args.at c.args.item)
    (sym read))
    ∙ ap (λ (m : Shelving _). set m.now at (insert (get_or m.now at []) c.args.at c.args.item)) c.self.view_is

pub returns-else-not-free-clause-marked : goal.returns-else-not-free-clause-marked
returns-else-not-free-clause-marked g c =
    let s = c.self.inside in
    let at = c.args.place in
    let v = ap (λ (m : Shelving _). length m.now) c.self.view_is in
    let l : at < length s.rows.items = omega (
      arith,
      v,
      c.requires.within,
      length-map s.rows.items (λ (r : ShelfRow _). r.items.items),
    ) in
    let free = free-from_seen s.rows s.log s.marked at c.self.invariant.within
    (subst (λ (m : Shelving _). IsFree m at) (sym c.self.view_is) (c.is_free-free.ensures.0 c.if-not-free.false)) in
    marked-free s.rows.items s.log.items s.marked at _ c.self.invariant l free
    ∙ ap (λ (m : Shelving _). m.marked) c.self.view_is

pub returns-else-not-free-clause-freed : goal.returns-else-not-free-clause-freed
returns-else-not-free-clause-freed g c =
    map-set_same (λ (r : ShelfRow _). r.freed) c.self.inside.rows.items c.args.place _ _
    (ap (λ (r : ShelfRow _). r.freed) c.index_mut.ensures.value)
    ∙ ap (λ (m : Shelving _). m.freed) c.self.view_is

pub returns-else-not-free-clause-spares : goal.returns-else-not-free-clause-spares
returns-else-not-free-clause-spares g c other =
    let s = c.self.inside in
    let at = c.args.place in
    let v = ap (λ (m : Shelving _). length m.now) c.self.view_is in
    let l : at < length s.rows.items = omega (
      arith,
      v,
      c.requires.within,
      length-map s.rows.items (λ (r : ShelfRow _). r.items.items),
    ) in
    let r : ShelfRow _ = record { items = c.put_in.new.items; freed = c.index_mut.result.now.freed } in
    let e = spares-more s.rows.items at 1 other c.index_mut.result.now r l c.index_mut.ensures.value (omega arith) in
    let w = ap (λ (m : Shelving _). slice_index m.spares other) c.self.view_is in
    omega (arith, e, w)
