use Rattle.std.proofs.Common.{◌≡◌, ◌<◌, true, length, set, refl, inr, subst, sym, ap, ◌∙◌, arith}
use Rattle.std.proofs.lemmas.List.{length-map}
use Rattle.std.proofs.lemmas.Bool.{both_ways, eq-eqb}
use Rattle.std.specs.Global.{Vec}
use Rattle.nomos_slots.specs.Log.{spare_of}
use Rattle.nomos_slots.specs.Rows.{IsFree, rows_of, spares_of}
use Rattle.nomos_slots.specs.Shelving.{Shelving}
use Rattle.nomos_slots.specs.declared.shelf.ShelfRow.{ShelfRow}
use Rattle.nomos_slots.specs.declared.shelf.ShelfStep.TheVariants as step
use Rattle.nomos_slots.proofs.RowLemmas.{is_freed-set_at, row-read, rows-set}
use Rattle.nomos_slots.proofs.ShelfLemmas.{free-from_seen, shelf-same, marked-free, shelf-logged, marked-logged_any, back-replaced, free-kept, below-not_free, spares-set}
use Rattle.nomos_slots.proofs.shelf.Shelf.replace.Goals as goal

pub invariant_of-self : goal.invariant_of-self
invariant_of-self g c =
    let s = c.self.inside in
    let at = c.args.place in
    let v = ap (λ (m : Shelving _). length m.now) c.self.view_is in
    let l : at < length s.rows.items = omega (
      arith,
      v,
      c.requires.within,
      length-map s.rows.items (λ (r : ShelfRow _). r.items.items),
    ) in
    shelf-same s.rows.items s.log.items s.marked at c.index_mut.result.now _ c.self.invariant l
    c.index_mut.ensures.value refl

pub returns-then-is_free-clause-now : goal.returns-then-is_free-clause-now
returns-then-is_free-clause-now g c =
    rows-set c.self.inside.rows.items c.args.place _
    ∙ ap (λ (row : Vec _). set (rows_of c.self.inside.rows.items) c.args.place row.items) c.replace.ensures.after
    ∙ ap (λ (m : Shelving _). set m.now c.args.place c.args.row.items) c.self.view_is

pub returns-then-is_free-clause-marked : goal.returns-then-is_free-clause-marked
returns-then-is_free-clause-marked g c =
    let s = c.self.inside in
    let at = c.args.place in
    let v = ap (λ (m : Shelving _). length m.now) c.self.view_is in
    let l : at < length s.rows.items = omega (
      arith,
      v,
      c.requires.within,
      length-map s.rows.items (λ (r : ShelfRow _). r.items.items),
    ) in
    let free = free-from_seen s.rows s.log s.marked at c.self.invariant.within
    (subst (λ (m : Shelving _). IsFree m at) (sym c.self.view_is) (c.is_free.ensures.0 c.if-is_free.true)) in
    marked-free s.rows.items s.log.items s.marked at _ c.self.invariant l free
    ∙ ap (λ (m : Shelving _). m.marked) c.self.view_is

pub returns-then-is_free-clause-free : goal.returns-then-is_free-clause-free
returns-then-is_free-clause-free g c =
    let s = c.self.inside in
    let at = c.args.place in
    let v = ap (λ (m : Shelving _). length m.now) c.self.view_is in
    let l : at < length s.rows.items = omega (
      arith,
      v,
      c.requires.within,
      length-map s.rows.items (λ (r : ShelfRow _). r.items.items),
    ) in
    let r : ShelfRow _ = record { items = c.replace.new.dest; freed = c.index_mut.result.now.freed } in
    free-kept s.rows s.log s.log.items s.marked at at c.index_mut.result.now r c.self.invariant.within l
    c.index_mut.ensures.value (λ h. h)
    (subst (λ (m : Shelving _). IsFree m at) (sym c.self.view_is) (c.is_free.ensures.0 c.if-is_free.true))

pub returns-then-is_free-clause-others : goal.returns-then-is_free-clause-others
returns-then-is_free-clause-others g c other was =
    let s = c.self.inside in
    let at = c.args.place in
    let v = ap (λ (m : Shelving _). length m.now) c.self.view_is in
    let l : at < length s.rows.items = omega (
      arith,
      v,
      c.requires.within,
      length-map s.rows.items (λ (r : ShelfRow _). r.items.items),
    ) in
    let r : ShelfRow _ = record { items = c.replace.new.dest; freed = c.index_mut.result.now.freed } in
    free-kept s.rows s.log s.log.items s.marked at other c.index_mut.result.now r c.self.invariant.within l
    c.index_mut.ensures.value (λ h. h)
    (subst (λ (m : Shelving _). IsFree m other) (sym c.self.view_is) was)

pub returns-then-is_free-clause-spares : goal.returns-then-is_free-clause-spares
returns-then-is_free-clause-spares g c =
    spares-set c.self.inside.rows.items c.args.place _
    ∙ ap (λ (row : Vec _). set (spares_of c.self.inside.rows.items) c.args.place (spare_of row)) c.replace.ensures.after
    ∙ ap (λ (m : Shelving _). set m.spares c.args.place (spare_of c.args.row)) c.self.view_is

pub invariant_of-self-2 : goal.invariant_of-self-2
invariant_of-self-2 g c =
    let s = c.self.inside in
    let at = c.args.place in
    let v = ap (λ (m : Shelving _). length m.now) c.self.view_is in
    let l : at < length s.rows.items = omega (
      arith,
      v,
      c.requires.within,
      length-map s.rows.items (λ (r : ShelfRow _). r.items.items),
    ) in
    let r = c.replace-items.new.dest in
    let flag : r.freed ≡ true = ap (λ (r : ShelfRow _). r.freed) c.replace-items.ensures.after in
    let bound = below-not_free s.rows s.log s.marked at c.self.invariant.within
    (λ free. absurd (both_ways _ c.if-is_free.false
    (c.is_free.ensures.1 (subst (λ (m : Shelving _). IsFree m at) c.self.view_is free)))) in
    shelf-logged s.rows.items s.log.items _ s.marked at (step.Replaced at c.replace-items.result.items)
    c.index_mut-2.result.now _ c.self.invariant l
    c.index_mut-2.ensures.value bound c.push_reserved.ensures.items refl (inr (eq-eqb at at refl))

pub returns-clause-now : goal.returns-clause-now
returns-clause-now g c =
    rows-set c.self.inside.rows.items c.args.place _
    ∙ ap (λ (row : ShelfRow _). set (rows_of c.self.inside.rows.items) c.args.place row.items.items)
    c.replace-items.ensures.after
    ∙ ap (λ (m : Shelving _). set m.now c.args.place c.args.row.items) c.self.view_is

pub returns-clause-marked : goal.returns-clause-marked
returns-clause-marked g c =
    let s = c.self.inside in
    let at = c.args.place in
    let v = ap (λ (m : Shelving _). length m.now) c.self.view_is in
    let l : at < length s.rows.items = omega (
      arith,
      v,
      c.requires.within,
      length-map s.rows.items (λ (r : ShelfRow _). r.items.items),
    ) in
    let r = c.replace-items.new.dest in
    let flag : r.freed ≡ true = ap (λ (r : ShelfRow _). r.freed) c.replace-items.ensures.after in
    let bound = below-not_free s.rows s.log s.marked at c.self.invariant.within
    (λ free. absurd (both_ways _ c.if-is_free.false
    (c.is_free.ensures.1 (subst (λ (m : Shelving _). IsFree m at) c.self.view_is free)))) in
    let old = c.replace-items.result.items in
    let read = row-read s.rows.items at c.index_mut-2.result.now l c.index_mut-2.ensures.value
    ∙ ap (λ (r : ShelfRow _). r.items.items) (sym c.replace-items.ensures.value) in
    marked-logged_any s.rows.items s.log.items _ s.marked at (step.Replaced at old) r bound c.self.invariant.within
    c.push_reserved.ensures.items
    (λ rs within same. back-replaced rs at r.items.items old (same ∙ read))
    ∙ ap (λ (m : Shelving _). m.marked) c.self.view_is

pub returns-clause-free : goal.returns-clause-free
returns-clause-free g c =
    let s = c.self.inside in
    let at = c.args.place in
    let v = ap (λ (m : Shelving _). length m.now) c.self.view_is in
    let l : at < length s.rows.items = omega (
      arith,
      v,
      c.requires.within,
      length-map s.rows.items (λ (r : ShelfRow _). r.items.items),
    ) in
    let r = c.replace-items.new.dest in
    let flag : r.freed ≡ true = ap (λ (r : ShelfRow _). r.freed) c.replace-items.ensures.after in
    let bound = below-not_free s.rows s.log s.marked at c.self.invariant.within
    (λ free. absurd (both_ways _ c.if-is_free.false
    (c.is_free.ensures.1 (subst (λ (m : Shelving _). IsFree m at) c.self.view_is free)))) in
    inr (is_freed-set_at s.rows.items at r l ∙ flag)

pub returns-clause-others : goal.returns-clause-others
returns-clause-others g c other was =
    let s = c.self.inside in
    let at = c.args.place in
    let v = ap (λ (m : Shelving _). length m.now) c.self.view_is in
    let l : at < length s.rows.items = omega (
      arith,
      v,
      c.requires.within,
      length-map s.rows.items (λ (r : ShelfRow _). r.items.items),
    ) in
    let r = c.replace-items.new.dest in
    let flag : r.freed ≡ true = ap (λ (r : ShelfRow _). r.freed) c.replace-items.ensures.after in
    let bound = below-not_free s.rows s.log s.marked at c.self.invariant.within
    (λ free. absurd (both_ways _ c.if-is_free.false
    (c.is_free.ensures.1 (subst (λ (m : Shelving _). IsFree m at) c.self.view_is free)))) in
    free-kept s.rows s.log c.push_reserved.new.self.items s.marked at other c.index_mut-2.result.now r
    c.self.invariant.within l
    c.index_mut-2.ensures.value (λ h. flag)
    (subst (λ (m : Shelving _). IsFree m other) (sym c.self.view_is) was)

pub returns-clause-spares : goal.returns-clause-spares
returns-clause-spares g c =
    spares-set c.self.inside.rows.items c.args.place _
    ∙ ap (λ (row : ShelfRow _). set (spares_of c.self.inside.rows.items) c.args.place (spare_of row.items))
    c.replace-items.ensures.after
    ∙ ap (λ (m : Shelving _). set m.spares c.args.place (spare_of c.args.row)) c.self.view_is
