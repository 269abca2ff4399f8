use Rattle.std.proofs.Common.{◌≡◌, ◌+◌, ◌≤◌, map, take, drop}
use Rattle.nomos_elaborate.specs.mirror.Checked.{found}
use Rattle.nomos_elaborate.specs.mirror.CodeCheck.{check_argument}
use Rattle.nomos_elaborate.specs.mirror.Each.{each}
use Rattle.nomos_surface.specs.TermView.{term_tree}
use Rattle.nomos_elaborate.specs.mirror.Entries.{all_entries, most_of}
use Rattle.nomos_surface.specs.TreeBounds.{KeepsTerm}
use Rattle.nomos_surface.specs.Counts.{in_each, in_term}
use Rattle.nomos_surface.specs.Grammatical.{Each}
use Rattle.nomos_elaborate.proofs.elaborator.Elaborator.values.Given as goal

-- the arguments so far gave what is there so far, and those that are left have room
abbrev pub invariant-loop-term : goal.invariant-loop-term
invariant-loop-term l = record {
  gave : each (λ w t. check_argument w (term_tree t)) l.fn.self (take l.term-index l.terms)
      ≡ found (l.self, l.values.items);
  keeps : Each KeepsTerm (map term_tree (drop l.term-index l.terms));
  room :
      all_entries l.self + most_of (in_each in_term (map term_tree (drop l.term-index l.terms)))
      ≤ all_entries l.fn.self + most_of (in_each in_term (map term_tree l.terms));
}
