use Rattle.std.proofs.Common.{map, sym, ap, ◌∙◌}
use Rattle.nomos_reader.specs.mirror.TermPieces.{head_tree}
use Rattle.nomos_reader.specs.mirror.Terms.{with_heads}
use Rattle.nomos_surface.specs.TermView.{term_tree}
use Rattle.nomos_reader.proofs.ChainLemmas.{last_mapped}
use Rattle.nomos_reader.proofs.term_reader.with_heads.Goals as goal

pub loop-head-preserved : goal.loop-head-preserved
loop-head-preserved c =
    ap (with_heads (map head_tree c.pop.new.self.items)) c.in_ok-term.ensures
    ∙ sym (last_mapped head_tree c.pop.new.self.items c.loop-head.heads.items (c.in-Some.head, c.in-Some.at)
    (term_tree c.loop-head.term) c.in-Some.ensures.items)
    ∙ c.loop-head.invariant
