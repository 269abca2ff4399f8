use Rattle.std.proofs.Common.{◌≡◌, ◌≤◌, length, drop}
use Rattle.std.specs.List.{flat_map}
use Rattle.nomos_ir.specs.Bindings.{bindings_of}
use Rattle.nomos_check.specs.mirror.StartingWalk.{carried_par}
use Rattle.nomos_check.proofs.start.lists_of.Given as goal

-- the parameters from here on are bound
abbrev pub invariant-loop-i : goal.invariant-loop-i
invariant-loop-i l =
    record {
      inside : l.i ≤ length l.values;
      bound : l.lists ≡ bindings_of (flat_map (λ par. carried_par par.var par.kind par.amount) (drop l.i l.values));
    }

abbrev pub decreases-loop-i : goal.decreases-loop-i
decreases-loop-i l = l.i
