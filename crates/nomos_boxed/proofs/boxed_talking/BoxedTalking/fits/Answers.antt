use Rattle.std.proofs.Common.{◌∙◌, MatchOption, ap, sym, subst}
use Rattle.nomos_machine.specs.Saying.{MayNotSay, MaySayWith}
use Rattle.nomos_machine.specs.State.{State}
use Rattle.nomos_boxed.specs.InBox.{state_in}
use Rattle.nomos_boxed.proofs.boxed_talking.BoxedTalking.fits.Goals as goal

pub returns-in-Some : goal.returns-in-Some
returns-in-Some g c =
    subst (λ (s : State). MatchOption c.fits.result (MayNotSay c.args.accepted.now s c.args.said.now)
    (MaySayWith c.args.accepted.now s c.args.said.now))
    (ap (λ m. g.M.Sight.state m) c.deref.ensures ∙ ap (state_in (λ m. g.M.Sight.state m.value)) (sym c.in-Some.is))
    c.fits.ensures
