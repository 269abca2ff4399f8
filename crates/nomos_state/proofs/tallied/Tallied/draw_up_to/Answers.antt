use Rattle.std.proofs.Common.{◌≤◌, ℕ, refl, sym, ap, subst}
use Rattle.nomos_machine.specs.State.{State}
use Rattle.nomos_state.specs.Indexed.{Indexed}
use Rattle.nomos_state.proofs.KeepLemmas.{drawn-tallied, marked-kept}
use Rattle.nomos_state.proofs.tallied.Tallied.draw_up_to.Goals as goal

pub invariant_of-self : goal.invariant_of-self
invariant_of-self c =
    let t = c.self.inside in
    let is = c.draw_up_to.ensures.state in
    let name = subst (λ (i : Indexed). i.state.next_name ≤ c.args.next_name) (sym c.self.view_is) c.requires.name in
    record {
      now =
          drawn-tallied t.tallies t.inside.state c.draw_up_to.new.self.state c.self.invariant.now
          (ap (λ (u : State). u.objects) is) (ap (λ (u : State). u.types) is)
          (subst (λ (n : ℕ). t.inside.state.next_name ≤ n) (sym (ap (λ (u : State). u.next_name) is)) name);
      marked =
          marked-kept t.was_exact t.was_lost _ _ _ _ c.self.invariant.marked refl c.draw_up_to.ensures.marked;
    }
