use Rattle.std.proofs.Common.{refl}
use Rattle.nomos_machine.specs.Revised.{with_value}
use Rattle.nomos_state.proofs.KeepLemmas.{carries-either, marked-kept}
use Rattle.nomos_state.proofs.tallied.Tallied.bind_value.Goals as goal

pub invariant_of-self-2 : goal.invariant_of-self-2
invariant_of-self-2 c =
    let t = c.self.inside in
    record {
      now =
          carries-either t.tallies t.inside.state c.bind_value.new.self.state c.args.pid (with_value c.args.v c.args.x)
          c.self.invariant.now c.in_ok-bind_value.ensures.ok c.bind_value.ensures.none
          (λ p. refl) (λ p. refl) (λ p. refl);
      marked =
          marked-kept t.was_exact t.was_lost _ _ _ _ c.self.invariant.marked refl c.bind_value.ensures.marked;
    }
