use Rattle.std.proofs.Common.{◌≡◌, map, vec_len}
use Rattle.nomos_reader.specs.mirror.TermPieces.{head_tree}
use Rattle.nomos_reader.specs.mirror.Terms.{with_heads}
use Rattle.nomos_surface.specs.TermView.{term_tree}
use Rattle.nomos_reader.proofs.term_reader.with_heads.Given as goal

abbrev pub decreases-loop-head : goal.decreases-loop-head
decreases-loop-head l = vec_len l.heads

-- the terms that are left before the term make what all of them do
abbrev pub invariant-loop-head : goal.invariant-loop-head
invariant-loop-head l =
    with_heads (map head_tree l.heads.items) (term_tree l.term)
    ≡ with_heads (map head_tree l.fn.heads.items) (term_tree l.fn.last)
