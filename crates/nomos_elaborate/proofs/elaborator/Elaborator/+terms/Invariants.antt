use Rattle.std.proofs.Common.{◌≡◌, ◌+◌, ◌≤◌, map, take, drop}
use Rattle.nomos_elaborate.specs.mirror.Checked.{found}
use Rattle.nomos_elaborate.specs.mirror.Each.{each}
use Rattle.nomos_elaborate.specs.mirror.TermCheck.{check_term}
use Rattle.nomos_surface.specs.TermView.{term_tree, term_trees}
use Rattle.nomos_elaborate.specs.mirror.Entries.{all_entries, most_of}
use Rattle.nomos_surface.specs.TreeBounds.{KeepsTerms}
use Rattle.nomos_surface.specs.Counts.{in_terms}
use Rattle.nomos_elaborate.proofs.elaborator.Elaborator.+terms.Given as goal

-- the terms so far gave the ids so far, and those that are left have room
abbrev pub invariant-terms-loop-term : goal.invariant-terms-loop-term
invariant-terms-loop-term l = record {
  gave : each (λ w t. check_term w (term_tree t)) l.fn.self (take l.term-index l.terms) ≡ found (l.self, l.ids.items);
  keeps : KeepsTerms (term_trees (map term_tree (drop l.term-index l.terms)));
  room :
      all_entries l.self + most_of (in_terms (term_trees (map term_tree (drop l.term-index l.terms))))
      ≤ all_entries l.fn.self + most_of (in_terms (term_trees (map term_tree l.terms)));
}
