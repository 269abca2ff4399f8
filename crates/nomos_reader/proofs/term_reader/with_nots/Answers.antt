use Rattle.std.proofs.Common.{ℕ, List, sym, ap, ◌∙◌}
use Rattle.nomos_reader.specs.mirror.Terms.{with_nots}
use Rattle.nomos_surface.specs.TermView.{term_tree}
use Rattle.nomos_reader.proofs.ChainLemmas.{last_not}
use Rattle.nomos_reader.proofs.term_reader.with_nots.Goals as goal

pub loop-at-preserved : goal.loop-at-preserved
loop-at-preserved c =
    ap (with_nots c.pop.new.self.items) c.in_ok-term.ensures
    ∙ sym (last_not c.pop.new.self.items c.in-Some.at (term_tree c.loop-at.term))
    ∙ sym (ap (λ (xs : List ℕ). with_nots xs (term_tree c.loop-at.term)) c.in-Some.ensures.items)
    ∙ c.loop-at.invariant
