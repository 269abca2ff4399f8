use Rattle.std.proofs.Common.{◌≡◌, ◌∙◌, List, Some, ap, sym, subst}
use Rattle.nomos_machine.specs.Sight.{owner}
use Rattle.nomos_machine.specs.State.{State}
use Rattle.nomos_machine.specs.declared.object.Object.{Object}
use Rattle.nomos_changes.specs.SmallChanges.{redirected}
use Rattle.nomos_state.specs.Indexed.{Indexed, held_now, state_of}
use Rattle.nomos_state.specs.Redirected.{redirected_at}
use Rattle.nomos_state.proofs.LookLemmas.{state-in_order}
use Rattle.nomos_state.proofs.RedirectLaws.{redirected-at_owner}
use Rattle.nomos_state.proofs.inside.Inside.redirect_user.Goals as goal

pub returns-in-Some-clause-state : goal.returns-in-Some-clause-state
returns-in-Some-clause-state c =
    let h = held_now c.self.inside.contents in
    let old = c.args.old in
    let new = c.args.new in
    let number = c.in-Some.number in
    let owned : owner (state_of h) old ≡ Some number = sym c.user.ensures ∙ c.in-Some.is in
    let Redirects : State → Type 0 = λ s. redirected old new s.objects ≡ redirected_at number old new s.objects in
    let law = subst Redirects (ap (λ (i : Indexed). i.state) c.self.view_is)
    (redirected-at_owner (state_of h) old new number (state-in_order h c.self.invariant.now) owned) in
    c.redirect_object.ensures.state
    ∙ ap (λ (os : List Object). record c.args.self.now.state { objects = os }) (sym law)
