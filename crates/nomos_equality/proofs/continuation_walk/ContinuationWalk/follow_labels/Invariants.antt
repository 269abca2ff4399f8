use Rattle.std.proofs.Common.{◌<◌, ℕ, get_or}
use Rattle.nomos_ir.specs.declared.type_node.Branch.{Branch}
use Rattle.nomos_equality.specs.declared.hop.Hop.TheVariants as hop
use Rattle.nomos_equality.specs.mirror.Walk.{WalksTo, FollowsHop}
use Rattle.nomos_equality.proofs.continuation_walk.ContinuationWalk.follow_labels.Given as goal

-- the walk has gone on, and met the continuations by the labels so far
abbrev pub invariant-loop-branch : goal.invariant-loop-branch
invariant-loop-branch l =
    record {
      walks : WalksTo l.program l.fn.self.visits.entries l.self.visits.entries;
      followed : (k : ℕ) (d : Branch) → k < l.branch-index
          → FollowsHop l.program l.at.0 (hop.Label (get_or l.branches k d).label) l.self.visits.entries;
    }
