use Rattle.std.proofs.Common.{◌≡◌, ◌+◌, ◌*◌, ◌≤◌, length, vec_len}
use Rattle.nomos_elaborate.specs.mirror.Following.{put_before}
use Rattle.nomos_elaborate.specs.mirror.Entries.{entries}
use Rattle.nomos_elaborate.proofs.builder.Builder.put_steps.Given as goal

-- the steps that are left, before the code so far, make what all of them make, and no more than two nodes of each
abbrev pub invariant-loop-step : goal.invariant-loop-step
invariant-loop-step l = record {
  gives :
      put_before l.model l.steps.items (l.self, l.next)
      ≡ put_before l.model l.initial.steps.items (l.initial.self, l.initial.next);
  room : entries l.self + 2 * length l.steps.items ≤ entries l.initial.self + 2 * length l.initial.steps.items;
}

abbrev pub decreases-loop-step : goal.decreases-loop-step
decreases-loop-step l = vec_len l.steps
