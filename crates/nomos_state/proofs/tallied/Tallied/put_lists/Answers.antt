use Rattle.std.proofs.Common.{refl}
use Rattle.nomos_changes.specs.SmallChanges.{with_lists}
use Rattle.nomos_state.proofs.KeepLemmas.{carries-either, marked-kept}
use Rattle.nomos_state.proofs.tallied.Tallied.put_lists.Goals as goal

pub invariant_of-self : goal.invariant_of-self
invariant_of-self c =
    let t = c.self.inside in
    record {
      now =
          carries-either t.tallies t.inside.state c.put_lists.new.self.state c.args.pid (with_lists c.args.lists.items)
          c.self.invariant.now c.put_lists.ensures.state c.put_lists.ensures.none (λ p. refl) (λ p. refl) (λ p. refl);
      marked =
          marked-kept t.was_exact t.was_lost _ _ _ _ c.self.invariant.marked refl c.put_lists.ensures.marked;
    }
