use Rattle.std.proofs.Common.{◌≡◌, ◌≤◌, ◌<◌, ℕ, Option, Some, None, length, refl, inl, inr, subst, sym, ap, ◌∙◌, arith}
use Rattle.std.proofs.lemmas.Bool.{both_ways, leb-true, le-leb}
use Rattle.std.proofs.lemmas.List.{length-map}
use Rattle.std.specs.Option.{unwrap_or}
use Rattle.nomos_slots.specs.Log.{mark_len}
use Rattle.nomos_slots.specs.Rows.{IsFree}
use Rattle.nomos_slots.specs.Shelving.{Shelving}
use Rattle.nomos_slots.specs.declared.shelf.ShelfRow.{ShelfRow}
use Rattle.nomos_slots.proofs.RowLemmas.{is_freed-read}
use Rattle.nomos_slots.proofs.ShelfLemmas.{free-seen, free-from_seen}
use Rattle.nomos_slots.proofs.shelf.Shelf.is_free.Goals as goal

same_len : (marked : Option ℕ) → unwrap_or marked 0 ≡ mark_len marked
same_len None = refl
same_len (Some n) = refl

pub returns-else-index : goal.returns-else-index
returns-else-index g c =
    let s = c.self.inside in
    let at = c.args.place in
    let len : c.unwrap_or.result ≡ mark_len s.marked = c.unwrap_or.ensures ∙ same_len s.marked in
    let v = ap (λ (m : Shelving _). length m.now) c.self.view_is in
    let l : at < length s.rows.items = omega (
      arith,
      v,
      c.requires,
      length-map s.rows.items (λ (r : ShelfRow _). r.items.items),
    ) in
    let within = c.self.invariant.within in (
      λ yes.
          let late : c.unwrap_or.result ≤ at = leb-true c.unwrap_or.result at yes in
          subst (λ (m : Shelving _). IsFree m at) c.self.view_is
          (free-seen s.rows s.log s.marked at within (inl (omega arith))),
      λ free.
          let parts = free-from_seen s.rows s.log s.marked at within
          (subst (λ (m : Shelving _). IsFree m at) (sym c.self.view_is) free) in
          elim parts [
            | inl late ↦ le-leb c.unwrap_or.result at (omega arith)
            | inr freed ↦ absurd (both_ways _ (is_freed-read s.rows.items at c.index.result.now l c.index.ensures
                ∙ c.if-index.false) freed)
          ],
    )
