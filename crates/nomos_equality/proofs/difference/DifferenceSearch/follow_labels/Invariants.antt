use Rattle.std.proofs.Common.{◌<◌, ℕ, get_or}
use Rattle.nomos_ir.specs.declared.type_node.Branch.{Branch}
use Rattle.nomos_equality.specs.declared.hop.Hop.TheVariants as hop
use Rattle.nomos_equality.specs.mirror.Search.{GoesTo, Classed, Follows}
use Rattle.nomos_equality.proofs.difference.DifferenceSearch.follow_labels.Given as goal

-- the search has gone on, and met the parts by the labels so far
abbrev pub invariant-loop-branch : goal.invariant-loop-branch
invariant-loop-branch l =
    record {
      goes : GoesTo l.program l.fn.self l.self;
      followed : (k : ℕ) (d : Branch) → k < l.branch-index
          → Follows l.program l.visit (hop.Label (get_or l.branches k d).label) (Classed l.self);
    }
