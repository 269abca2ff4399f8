use Rattle.std.proofs.Common.{arith}
use Rattle.nomos_state.specs.Indexed.{held_now}
use Rattle.nomos_deeds.specs.ProcessWalks.{is_acquiring, is_over}
use Rattle.nomos_state.proofs.StartLemmas.{none-at_all, none-before}
use Rattle.nomos_state.proofs.walking.first_acquiring.Goals as goal

pub loop-place-init : goal.loop-place-init
loop-place-init c =
    none-before (is_acquiring c.args.accepted.now) (held_now c.args.contents.now) c.args.after c.start_over-start.result
    c.start_over-start.ensures.before

pub returns : goal.returns
returns c =
    none-at_all (is_over c.args.after (is_acquiring c.args.accepted.now)) (held_now c.args.contents.now)
    c.loop-place.place (omega (arith, c.loop-place-test.false)) c.loop-place.invariant
