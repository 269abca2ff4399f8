use Rattle.std.proofs.Common.{◌≡◌, vec_len}
use Rattle.nomos_reader.specs.mirror.Terms.{with_nots}
use Rattle.nomos_surface.specs.TermView.{term_tree}
use Rattle.nomos_reader.proofs.term_reader.with_nots.Given as goal

abbrev pub decreases-loop-at : goal.decreases-loop-at
decreases-loop-at l = vec_len l.nots

-- the words that are left before the term make what all of them do
abbrev pub invariant-loop-at : goal.invariant-loop-at
invariant-loop-at l = with_nots l.nots.items (term_tree l.term) ≡ with_nots l.fn.nots.items (term_tree l.fn.term)
