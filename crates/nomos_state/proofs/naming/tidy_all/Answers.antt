use Rattle.std.proofs.Common.{◌<◌, ◌≡◌, ◌∙◌, List, length, rules, ap, arith}
use Rattle.nomos_machine.specs.declared.object.Object.{Object}
use Rattle.nomos_state.specs.Indexed.{held_now, state_of}
use Rattle.nomos_state.specs.Tidying.{tidied_at}
use Rattle.nomos_state.specs.declared.inside.Columns.{Columns}
use Rattle.nomos_state.proofs.TidyLemmas.{tidied-next}
use Rattle.nomos_state.proofs.naming.tidy_all.Goals as goal

pub loop-place-preserved : goal.loop-place-preserved
loop-place-preserved c =
    let old = c.args.contents.now in
    let before = c.loop-place.contents in
    let is = c.loop-place.invariant in
    let objects = (state_of (held_now old)).objects in
    let same : (state_of (held_now before)).objects ≡ objects =
    ap (λ (x : Columns). (state_of (held_now x)).objects) is.others
    in
    let within : c.loop-place.place < length old.names.now = search rules in
    record {
      holding = c.tidy_at.ensures.holding;
      others =
          c.tidy_at.ensures.others
          ∙ ap (λ (x : Columns). let y : Columns = record x { names = c.tidy_at.new.contents.names } in y) is.others;
      names =
          c.tidy_at.ensures.names
          ∙ ap (λ (os : List Object). tidied_at os c.loop-place.place before.names.now) same
          ∙ ap (tidied_at objects c.loop-place.place) is.names
          ∙ tidied-next objects old.names.now c.loop-place.place within;
      marked = c.tidy_at.ensures.marked ∙ is.marked;
      room = omega (arith, is.room, c.tidy_at.ensures.room);
    }
