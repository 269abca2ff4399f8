use Rattle.std.proofs.Common.{refl, sym, subst}
use Rattle.nomos_machine.specs.Objects.{object_at}
use Rattle.nomos_state.specs.Tallied.{AreTalliesOf}
use Rattle.nomos_state.proofs.KeepLemmas.{left-either, left-marks, marked-kept}
use Rattle.nomos_state.proofs.tallied.Tallied.leave.Goals as goal

pub invariant_of-self : goal.invariant_of-self
invariant_of-self c =
    let t = c.self.inside in
    let s = t.inside.state in
    let after = c.uncount.new.tallies in
    let number = c.args.number in
    let there = c.uncount.ensures.there in
    let none = c.uncount.ensures.none in
    let o = object_at s.objects number in
    record {
      now =
          subst (AreTalliesOf after) (sym c.leave.ensures.state)
          (left-either t.tallies after s number there none o refl c.self.invariant.now);
      marked =
          marked-kept t.was_exact t.was_lost _ _ _ _ c.self.invariant.marked
          (left-marks t.tallies after s number there none o refl) c.leave.ensures.marked;
    }
