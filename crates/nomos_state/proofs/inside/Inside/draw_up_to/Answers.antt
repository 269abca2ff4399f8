use Rattle.std.proofs.Common.{◌≤◌, sym, ap, subst}
use Rattle.nomos_state.specs.Indexed.{Indexed}
use Rattle.nomos_state.proofs.DrawLemmas.{drawn-indexed}
use Rattle.nomos_state.proofs.inside.Inside.draw_up_to.Goals as goal

pub invariant_of-self : goal.invariant_of-self
invariant_of-self c =
    drawn-indexed c.self.inside c.self.invariant c.args.next_object c.args.next_name
    (subst (λ (i : Indexed). i.state.next_object ≤ c.args.next_object) (sym c.self.view_is) c.requires.object)
    (subst (λ (i : Indexed). i.state.next_name ≤ c.args.next_name) (sym c.self.view_is) c.requires.name)

pub returns-clause-state : goal.returns-clause-state
returns-clause-state c =
    ap (λ (i : Indexed). record i.state { next_object = c.args.next_object; next_name = c.args.next_name })
    c.self.view_is
