use Rattle.std.proofs.Common.{◌≡◌, ◌≤◌, length, drop, filter}
use Rattle.nomos_ir.specs.Bindings.{bindings_of}
use Rattle.nomos_types.specs.Judgement.{is_shared}
use Rattle.nomos_check.specs.mirror.StartingWalk.{picks}
use Rattle.nomos_check.proofs.start.channels_of.Given as goal

-- the channels from here on are bound
abbrev pub invariant-loop-i : goal.invariant-loop-i
invariant-loop-i l =
    record {
      inside : l.i ≤ length l.channels;
      bound : l.made ≡ bindings_of (filter (λ par. picks l.references (is_shared l.program par)) (drop l.i l.channels));
    }

abbrev pub decreases-loop-i : goal.decreases-loop-i
decreases-loop-i l = l.i
