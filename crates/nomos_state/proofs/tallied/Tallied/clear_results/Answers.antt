use Rattle.std.proofs.Common.{refl, ap}
use Rattle.nomos_machine.specs.State.{State}
use Rattle.nomos_state.proofs.KeepLemmas.{aside-tallied, marked-kept}
use Rattle.nomos_state.proofs.tallied.Tallied.clear_results.Goals as goal

pub invariant_of-self : goal.invariant_of-self
invariant_of-self c =
    let t = c.self.inside in
    let is = c.clear_results.ensures.state in
    record {
      now =
          aside-tallied t.tallies t.inside.state c.clear_results.new.self.state c.self.invariant.now
          (ap (λ (u : State). u.objects) is) (ap (λ (u : State). u.types) is) (ap (λ (u : State). u.next_name) is);
      marked =
          marked-kept t.was_exact t.was_lost _ _ _ _ c.self.invariant.marked refl c.clear_results.ensures.marked;
    }
