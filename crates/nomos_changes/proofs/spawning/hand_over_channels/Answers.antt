use Rattle.std.proofs.Common.{◌∙◌, arith, refl}
use Rattle.nomos_changes.proofs.HandLemmas.{handed-all, handed-more, handed-none}
use Rattle.nomos_changes.proofs.spawning.hand_over_channels.Goals as goal

pub loop-v-init : goal.loop-v-init
loop-v-init g c = record {
  state = λ a p q program there.
      handed-none a (g.P.Sight.state c.args.parts.now) p c.args.pid q there c.args.channels.now;
  room = omega arith;
  marked = refl;
}

pub loop-v-preserved : goal.loop-v-preserved
loop-v-preserved g c = record {
  state = λ a p q program there.
      handed-more a (g.P.Sight.state c.args.parts.now) p c.args.pid q there c.args.channels.now
      (g.P.Sight.state c.loop-v.parts) (g.P.Sight.state c.hand_over_channel.new.parts) c.loop-v.v-index _
      (omega arith) (c.loop-v.invariant.state a p q program there)
      (λ r then. c.hand_over_channel.ensures.state a p r program then);
  room = omega (arith, c.hand_over_channel.ensures.room, c.loop-v.invariant.room);
  marked = c.hand_over_channel.ensures.marked ∙ c.loop-v.invariant.marked;
}

pub returns-clause-state : goal.returns-clause-state
returns-clause-state g c a p q program there =
    handed-all a (g.P.Sight.state c.args.parts.now) p c.args.pid q there c.args.channels.now
    (g.P.Sight.state c.loop-v.parts) c.loop-v.v-index (omega arith) (c.loop-v.invariant.state a p q program there)
