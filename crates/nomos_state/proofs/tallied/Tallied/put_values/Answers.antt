use Rattle.std.proofs.Common.{refl}
use Rattle.nomos_changes.specs.SmallChanges.{with_values}
use Rattle.nomos_state.proofs.KeepLemmas.{carries-either, marked-kept}
use Rattle.nomos_state.proofs.tallied.Tallied.put_values.Goals as goal

pub invariant_of-self : goal.invariant_of-self
invariant_of-self c =
    let t = c.self.inside in
    record {
      now =
          carries-either t.tallies t.inside.state c.put_values.new.self.state c.args.pid
          (with_values c.args.values.items)
          c.self.invariant.now c.put_values.ensures.state c.put_values.ensures.none (λ p. refl) (λ p. refl) (λ p. refl);
      marked =
          marked-kept t.was_exact t.was_lost _ _ _ _ c.self.invariant.marked refl c.put_values.ensures.marked;
    }
