use Rattle.std.proofs.Common.{◌≡◌, ◌<◌, ℕ, get_or}
use Rattle.nomos_ir.specs.declared.type_node.Branch.{Branch}
use Rattle.nomos_equality.specs.declared.hop.Hop.TheVariants as hop
use Rattle.nomos_equality.specs.mirror.Search.{Follows}
use Rattle.nomos_equality.specs.mirror.Known.{Among, visit_at, Spreads}
use Rattle.nomos_equality.proofs.known.Known.follow_labels.Given as goal

-- the parts by the labels so far are met
abbrev pub invariant-loop-branch : goal.invariant-loop-branch
invariant-loop-branch l =
    record {
      spreads : Spreads l.program l.left l.right l.fn.self l.self;
      amounts : l.self.amounts ≡ l.fn.self.amounts;
      followed : (k : ℕ) (d : Branch) → k < l.branch-index
          → Follows l.program (visit_at l.left l.right) (hop.Label (get_or l.branches k d).label) (Among l.self.pairs);
    }
