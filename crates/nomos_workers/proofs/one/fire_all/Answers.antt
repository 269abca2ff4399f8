use Rattle.std.proofs.Common.{arith, refl}
use Rattle.nomos_workers.proofs.OneLemmas.{made-ends, made-more, made-none, made-numbers}
use Rattle.nomos_workers.proofs.one.fire_all.Goals as goal

pub firings-init : goal.firings-init
firings-init g c = record {
  policy = refl;
  made = made-none c.args.policy c.args.accepted.now c.args.limit c.args.watched.now.world c.requires.may;
  watched = c.requires.watched;
}

pub step-requires-clause-numbers : goal.step-requires-clause-numbers
step-requires-clause-numbers g c =
    made-numbers c.args.policy c.args.accepted.now c.know.ensures.accepted c.args.limit c.firings._made
    c.firings.chooser.last c.args.watched.now.world c.firings.watched.world c.requires.may c.firings.invariant.made
    (omega arith)

pub returns-in-Ok-Ends-clause-ends : goal.returns-in-Ok-Ends-clause-ends
returns-in-Ok-Ends-clause-ends g c =
    let ended = rw (c.in-Ok-Ends.field-0-is, c.firings.invariant.policy) at c.in-Ok-Ends.ensures.ok in
    made-ends c.args.policy c.args.accepted.now c.args.limit c.firings._made c.firings.chooser.last
    c.args.watched.now.world c.firings.watched.world c.step.new.watched.world c.in-Ok-Ends.end c.firings.invariant.made
    ended.0 ended.1 ended.2

pub firings-preserved : goal.firings-preserved
firings-preserved g c =
    let fired = rw (c.in-Ok-Fired.field-0-is, c.firings.invariant.policy) at c.in-Ok-Fired.ensures.ok in
    record {
      policy = c.firings.invariant.policy;
      made =
          made-more c.args.policy c.args.accepted.now c.firings._made c.firings.chooser.last c.in-Ok-Fired.pid
          c.args.watched.now.world c.firings.watched.world c.step.new.watched.world c.firings.invariant.made fired.0
          fired.1 c.step.ensures.stands;
      watched = c.step.ensures.watched;
    }
