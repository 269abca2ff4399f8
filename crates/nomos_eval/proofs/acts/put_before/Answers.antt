-- A value is put before a list where the whole is light enough.
use Rattle.nomos_eval.proofs.ActLemmas.{put-done}
use Rattle.nomos_eval.proofs.acts.put_before.Goals as goal

pub returns : goal.returns
returns c =
    put-done c.args.evaluator.now c.take-list.new.values c.take-value.new.values c.push-2.new.self c.add_more.new.self
    c.take-value.result c.take-list.result c.in-List.place c.in_ok-joined.joined c.weight.result c.weight-2.result
    c.requires c.take-list.ensures.taken c.take-list.ensures.rest c.take-value.ensures.taken
    c.take-value.ensures.rest c.in-List.is c.weight.ensures c.weight-2.ensures c.if-weight-ge-MAX_WEIGHT.false
    c.in_ok-joined.ensures.0 c.in_ok-joined.ensures.1 c.in_ok-push-2.ensures
