use Rattle.std.proofs.Common.{refl}
use Rattle.std.proofs.lemmas.Result.{err_from_is_err_and}
use Rattle.nomos_replay.specs.Stand.{fires}
use Rattle.nomos_replay.specs.mirror.BatchUnderWay.{under_way}
use Rattle.nomos_replay.proofs.BatchLemmas.{always-ok, carries-fired, judged, judged-allowed, ran-more, ran-none, ran-numbers, stops-firing}
use Rattle.nomos_replay.proofs.ReadingLemmas.{carries-same, stops-later, stops-no_line}
use Rattle.nomos_replay.proofs.told_batch.replay_firings.Goals as goal

pub lines-init : goal.lines-init
lines-init g c = record {
  counted = c.requires.counted;
  watched = c.requires.watched;
  ran = ran-none c.args.most c.args.watched.now.world c.requires.stands c.requires.within;
  carries = λ first all items batch told same. carries-same c.args.trial.now.accepted.now first all c.args.source.now _;
}

pub returns-in_err-line-clause-read : goal.returns-in_err-line-clause-read
returns-in_err-line-clause-read g c = λ first all items batch told same.
    let a = c.args.trial.now.accepted.now in
    let p = err_from_is_err_and c.from_residual.result c.from_residual.ensures.1 in
    rw (p.1, p.2)
    (stops-later a first all (c.lines.invariant.carries first all items batch told same) _
    (stops-no_line a first all c.lines.source
    (fires c.args.trial.now.version told (under_way batch c.lines.watched.world) items) tt _ c.in_err-line.ensures.err))

pub returns-in-Ok-clause-read : goal.returns-in-Ok-clause-read
returns-in-Ok-clause-read g c =
    let read = rw c.in-Ok.ensures at c.in_ok-line.ensures.ok in
    rw c.judge_end.ensures.world
    (judged c.args.trial.now.accepted.now c.args.trial.now.version c.args.most c.args.watched.now.world
    c.lines.watched.world _ c.lines.invariant.carries read refl c.judge_end.result c.judge_end.ensures.judged)

pub returns-in-Ok-clause-ran : goal.returns-in-Ok-clause-ran
returns-in-Ok-clause-ran g c =
    rw c.judge_end.ensures.world
    (always-ok c.args.trial.now.accepted.now c.args.most c.args.watched.now.world c.lines.watched.world
    c.judge_end.result c.lines.invariant.ran)

pub fire_line-requires-clause-numbers : goal.fire_line-requires-clause-numbers
fire_line-requires-clause-numbers g c = λ left.
    ran-numbers c.know.ensures.accepted c.requires.room c.lines.invariant.ran left

pub returns-in_err-fire_line-in-Err-clause-read : goal.returns-in_err-fire_line-in-Err-clause-read
returns-in_err-fire_line-in-Err-clause-read g c = λ first all items batch told same.
    let a = c.args.trial.now.accepted.now in
    let p = err_from_is_err_and c.from_residual-in_err-fire_line-in-Err.result
    c.from_residual-in_err-fire_line-in-Err.ensures.1 in
    let stops = rw c.in-Err.ensures.0 at c.in_err-fire_line-in-Err.ensures.fires in
    rw (p.1, p.2)
    (stops-later a first all (c.lines.invariant.carries first all items batch told same) _
    (stops-firing a c.args.trial.now.version c.args.most c.know.ensures.accepted c.lines.watched.world
    c.in_ok-line.ensures.ok c.in-Err.ensures.1 _ stops first all items batch told same))

pub lines-preserved : goal.lines-preserved
lines-preserved g c =
    let by = rw c.in-Err.ensures.0 at c.in_ok-fire_line-in-Err.ensures.fires in
    record {
      counted = c.in_ok-line.ensures.counted;
      watched = c.in_ok-fire_line-in-Err.ensures.watched;
      ran = ran-more c.lines.invariant.ran by c.in_ok-fire_line-in-Err.ensures.stands;
      carries =
          carries-fired c.args.trial.now.accepted.now c.args.trial.now.version c.args.most c.args.watched.now.world
          c.lines.watched.world c.fire_line.new.watched.world c.lines.invariant.carries c.in_ok-line.ensures.ok by;
    }

pub returns-in-Ok-clause-allowed : goal.returns-in-Ok-clause-allowed
returns-in-Ok-clause-allowed g c =
    rw c.judge_end.ensures.world
    (judged-allowed c.args.trial.now.accepted.now c.args.most c.lines.watched.world _ c.judge_end.result
    c.judge_end.ensures.judged)
