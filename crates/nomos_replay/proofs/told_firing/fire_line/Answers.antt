use Rattle.std.proofs.Common.{◌∙◌, length, refl, sym, ap, arith}
use Rattle.nomos_replay.proofs.FiringLemmas.{fired-by, fired-otherwise}
use Rattle.nomos_replay.proofs.told_firing.fire_line.Goals as goal

pub returns-then-not-same-clause-fires : goal.returns-then-not-same-clause-fires
returns-then-not-same-clause-fires g c = (
  refl,
  record { says = sym c.says_fired.ensures ∙ c.in-Some.is; left = omega (arith, ap length c.firings.ensures) },
  fired-otherwise c.args.trial.now.accepted.now c.args.trial.now.version c.args.read.most c.args.read.line.now
      c.args.watched.now.world c.fire_if_ready.new.watched.world c.in-Some.pid c.in-Some-place_of.place
      c.in_ok-fired.fired c.if-not-fired.false c.in_ok-fired.ensures.ok
      (sym c.place_of.ensures ∙ c.in-Some-place_of.is) c.says_place-same.result c.if-not-same.true
      c.says_place-same.ensures,
)

pub returns-clause-fires : goal.returns-clause-fires
returns-clause-fires g c =
    fired-by c.args.trial.now.accepted.now c.args.trial.now.version c.args.read.most c.args.read.line.now
    c.args.watched.now.world c.fire_if_ready.new.watched.world c.in-Some.pid c.in-Some-place_of.place
    (record { says = sym c.says_fired.ensures ∙ c.in-Some.is; left = omega (arith, ap length c.firings.ensures) })
    c.in_ok-fired.fired c.if-not-fired.false c.in_ok-fired.ensures.ok
    (sym c.place_of.ensures ∙ c.in-Some-place_of.is) c.says_place-same.result c.if-not-same.false
    c.says_place-same.ensures
