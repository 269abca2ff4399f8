use Rattle.std.proofs.Common.{◌<◌, ap, ◌∙◌, length, get_or, refl, arith}
use Rattle.std.specs.Vec.{vec_len}
use Rattle.std.proofs.Math.Seq.{map-set_same}
use Rattle.nomos_slots.specs.declared.column.Logged.{Logged}
use Rattle.nomos_slots.proofs.LogLemmas.{kept_more}
use Rattle.nomos_slots.proofs.column.release.Goals as goal

pub loop-saved-preserved : goal.loop-saved-preserved
loop-saved-preserved g c =
    let es = c.loop-saved.items.items in
    let log = c.args.log.now in
    let i = c.loop-saved.saved-index in
    let saved = c.saved-item.result in
    let l : i < length log = c.loop-saved-test.true in
    let p : (get_or log i saved).0 < vec_len c.args.items.now = c.requires.places i saved l in
    let within : saved.0 < length es =
    omega (arith, ap (λ (s : _ × _). s.0) c.saved-item.is, c.loop-saved.invariant.len, c.loop-saved.items.ok.0) in
    record {
      records =
          map-set_same (λ (e : Logged _). e.item) es saved.0 _ _
          (ap (λ (e : Logged _). e.item) c.index_mut.ensures.value)
          ∙ c.loop-saved.invariant.records;
      kept = kept_more es log i saved _ l c.saved-item.is within refl c.loop-saved.invariant.kept;
      len = c.loop-saved.invariant.len;
      capacity = c.loop-saved.invariant.capacity;
    }
