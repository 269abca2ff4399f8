use Rattle.std.proofs.Common.{◌<◌, ℕ, get_or}
use Rattle.nomos_ir.specs.declared.type_node.Branch.{Branch}
use Rattle.nomos_equality.specs.declared.hop.Hop.TheVariants as hop
use Rattle.nomos_equality.specs.mirror.Reach.{WalksOn, MeetsPart}
use Rattle.nomos_equality.proofs.reach.TypeWalk.follow_labels.Given as goal

-- the parts by the labels so far are met
abbrev pub invariant-loop-branch : goal.invariant-loop-branch
invariant-loop-branch l =
    record {
      walks : WalksOn l.program l.fn.self.visits.keys l.self.visits.keys;
      followed : (k : ℕ) (d : Branch) → k < l.branch-index
          → MeetsPart l.program l.at.0 (hop.Label (get_or l.branches k d).label) l.self.visits.keys;
    }
