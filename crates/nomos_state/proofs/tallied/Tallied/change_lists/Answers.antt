use Rattle.std.proofs.Common.{refl}
use Rattle.nomos_changes.specs.SmallChanges.{with_list_change}
use Rattle.nomos_state.proofs.KeepLemmas.{carries-either, marked-kept}
use Rattle.nomos_state.proofs.tallied.Tallied.change_lists.Goals as goal

pub invariant_of-self-2 : goal.invariant_of-self-2
invariant_of-self-2 c =
    let t = c.self.inside in
    record {
      now =
          carries-either t.tallies t.inside.state c.change_lists.new.self.state c.args.pid
          (with_list_change c.args.change)
          c.self.invariant.now c.in_ok-change_lists.ensures.ok c.change_lists.ensures.none
          (λ p. refl) (λ p. refl) (λ p. refl);
      marked =
          marked-kept t.was_exact t.was_lost _ _ _ _ c.self.invariant.marked refl c.change_lists.ensures.marked;
    }
