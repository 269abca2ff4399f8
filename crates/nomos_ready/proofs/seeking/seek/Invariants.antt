use Rattle.std.proofs.Common.{◌≡◌, ◌≤◌, ◌-◌, ◌^◌}
use Rattle.nomos_ready.specs.Covering.{Covers}
use Rattle.nomos_ready.proofs.SeekLemmas.{NoneUpTo}
use Rattle.nomos_ready.proofs.seeking.seek.Given as goal

-- the set covers the state still, and none so far is ready
abbrev pub invariant-looks : goal.invariant-looks
invariant-looks g l = record {
  lost : l.awake.lost ≡ l.fn.awake.lost;
  sought : l.awake.sought ≡ l.fn.awake.sought;
  covers : Covers l.accepted (g.M.Sight.state l.machine) l.awake;
  over : l.after ≤ l.from;
  none : NoneUpTo l.accepted (g.M.Sight.state l.machine) l.awake l.after l.from;
}

-- how many numbers are left
abbrev pub decreases-looks : goal.decreases-looks
decreases-looks g l = 2 ^ 32 - l.from
