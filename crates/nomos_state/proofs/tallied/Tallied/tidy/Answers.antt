use Rattle.std.proofs.Common.{refl, sym, subst}
use Rattle.nomos_state.specs.Suspecting.{Suspicion}
use Rattle.nomos_state.specs.Tallied.{SayRight}
use Rattle.nomos_state.proofs.KeepLemmas.{marked-kept}
use Rattle.nomos_state.proofs.TalliedTidyLemmas.{tidied-tallied}
use Rattle.nomos_state.proofs.tallied.Tallied.tidy.Goals as goal

pub invariant_of-self-else-self : goal.invariant_of-self-else-self
invariant_of-self-else-self c =
    let t = c.self.inside in
    let tallies = t.tallies in
    record {
      now =
          subst (λ (u : Suspicion). SayRight tallies.exact u tallies.names.now c.tidy.new.self.state)
          (sym c.clear.ensures)
          (tidied-tallied tallies.exact tallies.suspects tallies.names.now t.inside.state c.tidy.new.self.state
          c.self.invariant.now c.tidy.ensures.state);
      marked =
          marked-kept t.was_exact t.was_lost _ _ _ _ c.self.invariant.marked refl c.tidy.ensures.marked;
    }
