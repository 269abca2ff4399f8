use Rattle.std.proofs.Common.{◌<◌, All, ◌∙◌, sym, subst}
use Rattle.std.specs.Vec.{vec_len}
use Rattle.std.proofs.lemmas.List.Elements.{All-take}
use Rattle.nomos_slots.specs.Rows.{place_of, rows_of}
use Rattle.nomos_slots.specs.declared.shelf.ShelfStep.{ShelfStep}
use Rattle.nomos_slots.proofs.RowLemmas.{covered-popped, undo-popped}
use Rattle.nomos_slots.proofs.shelf.undo_all.Goals as goal

pub loop-step-preserved : goal.loop-step-preserved
loop-step-preserved g c =
    let rest = c.pop.new.self.items in
    let log = c.loop-step.log.items in
    let e = c.in-Some.step in
    let split = c.in-Some.ensures.items in
    let rows = c.loop-step.rows.items in
    record {
      rows = undo-popped log rest e (rows_of rows) _ split c.undo_step.ensures.rows ∙ c.loop-step.invariant.rows;
      below = subst (All (λ (s : ShelfStep _). place_of s < vec_len c.args.rows.now)) (sym c.in-Some.ensures.rest)
          (All-take (λ (s : ShelfStep _). place_of s < vec_len c.args.rows.now) _ log c.loop-step.invariant.below);
      covered = covered-popped rows c.undo_step.new.rows.items log rest e split c.loop-step.invariant.covered
          c.undo_step.ensures.freed;
      len = c.undo_step.ensures.len ∙ c.loop-step.invariant.len;
      capacity = c.undo_step.ensures.capacity ∙ c.loop-step.invariant.capacity;
      log_capacity = c.pop.ensures.capacity ∙ c.loop-step.invariant.log_capacity;
    }
