use Rattle.std.proofs.Common.{◌<◌, ◌+◌, false, ℕ, sym, ap, ◌∙◌, refl, length, get_or, set, drop, subst, arith}
use Rattle.std.proofs.Math.Seq.{map-set_same}
use Rattle.std.specs.Vec.{vec_len}
use Rattle.nomos_slots.specs.Log.{spare_of}
use Rattle.nomos_slots.specs.Rows.{IsCovered, place_of}
use Rattle.nomos_slots.specs.declared.shelf.ShelfRow.{ShelfRow}
use Rattle.nomos_slots.proofs.RowLemmas.{covered-more, none-freed}
use Rattle.nomos_slots.proofs.shelf.release.Goals as goal

pub loop-step-preserved : goal.loop-step-preserved
loop-step-preserved g c =
    let rows = c.loop-step.rows.items in
    let log = c.args.log.now in
    let i = c.loop-step.step-index in
    let e = c.step-item.result in
    let l : i < length log = c.loop-step-test.true in
    let p : place_of (get_or log i e) < vec_len c.args.rows.now = c.requires.below i e l in
    let within : place_of e < length rows =
    omega (arith, ap place_of c.step-item.is, c.loop-step.invariant.len, c.loop-step.rows.ok.0) in
    let read = c.index_mut.ensures.value in
    let r : ShelfRow _ = record { items = c.index_mut.result.now.items; freed = false } in
    let next = covered-more rows log i e r l c.step-item.is within refl c.loop-step.invariant.covered in
    record {
      rows = map-set_same (λ (r : ShelfRow _). r.items.items) rows _ _ _ (ap (λ (r : ShelfRow _). r.items.items) read)
          ∙ c.loop-step.invariant.rows;
      spares = map-set_same (λ (r : ShelfRow _). spare_of r.items) rows _ _ _
          (ap (λ (r : ShelfRow _). spare_of r.items) read)
          ∙ c.loop-step.invariant.spares;
      covered = subst (λ (k : ℕ). IsCovered (set rows k r) (drop (i + 1) log)) (sym c.place_of.ensures) next;
      len = c.loop-step.invariant.len;
      capacity = c.loop-step.invariant.capacity;
    }

pub returns-clause-freed : goal.returns-clause-freed
returns-clause-freed g c =
    none-freed c.loop-step.rows.items c.args.log.now c.loop-step.step-index c.loop-step-test.false
    c.loop-step.invariant.covered
