use Rattle.std.proofs.Common.{arith}
use Rattle.nomos_state.specs.Indexed.{held_now}
use Rattle.nomos_deeds.specs.ProcessWalks.{is_over, is_ready_in}
use Rattle.nomos_state.proofs.StartLemmas.{none-at_all, none-before}
use Rattle.nomos_state.proofs.walking.first_ready.Goals as goal

pub loop-place-init : goal.loop-place-init
loop-place-init g c =
    none-before (is_ready_in c.args.accepted.now (g.S.Sight.state c.args.sight.now)) (held_now c.args.contents.now)
    c.args.after c.start_over-start.result c.start_over-start.ensures.before

pub returns : goal.returns
returns g c =
    none-at_all (is_over c.args.after (is_ready_in c.args.accepted.now (g.S.Sight.state c.args.sight.now)))
    (held_now c.args.contents.now) c.loop-place.place (omega (arith, c.loop-place-test.false)) c.loop-place.invariant
