use Rattle.std.proofs.Common.{refl, sym, ap, ◌∙◌}
use Rattle.std.proofs.lemmas.Result.{err_from_is_err_and}
use Rattle.nomos_elaborate.specs.mirror.Checked.{found}
use Rattle.nomos_elaborate.specs.mirror.CodeCheck.{check_passed, check_channel, passing}
use Rattle.nomos_elaborate.specs.mirror.Each.{each}
use Rattle.nomos_elaborate.proofs.Loops.{each-more, each-stops}
use Rattle.nomos_elaborate.proofs.StopLaws.{stops-then}
use Rattle.nomos_elaborate.proofs.elaborator.Elaborator.channels.Goals as goal

pub loop-name-init : goal.loop-name-init
unfolding each
loop-name-init c = ap (λ items. found (c.args.self.now, items)) (sym c.new-channels.ensures.items)

pub returns-in_err-channel : goal.returns-in_err-channel
returns-in_err-channel c =
    let p = err_from_is_err_and c.from_residual.result c.from_residual.ensures.1 in
    rw (p.1, p.2) (each-stops check_passed c.args.self.now c.args.names.now c.loop-name.name-index c.args.self.now
    c.loop-name.channels.items c.name-item.result c.loop-name-test.true c.name-item.is c.loop-name.invariant
    c.in_err-channel.field-0.0 _ refl
    (stops-then c.in_err-channel.field-0.0 (check_channel c.args.self.now c.name-item.result)
    (passing c.args.self.now) c.in_err-channel.ensures))

pub loop-name-preserved : goal.loop-name-preserved
loop-name-preserved c =
    each-more check_passed c.args.self.now c.args.names.now c.loop-name.name-index c.args.self.now
    c.loop-name.channels.items c.name-item.result c.loop-name-test.true c.name-item.is c.loop-name.invariant
    c.args.self.now c.in_ok-channel.channel (rw c.in_ok-channel.ensures refl)
    ∙ ap (λ items. found (c.args.self.now, items)) (sym c.in_ok-push.ensures.items)
