-- The lines of the names that are left are left to write.
use Rattle.std.proofs.Common.{length, map}
use Rattle.nomos_snapshot.specs.declared.line.SnapshotLine.TheVariants as line
use Rattle.nomos_snapshot.proofs.SavingLemmas.{IsAhead}
use Rattle.nomos_snapshot.proofs.saving.push_names.Given as goal

abbrev pub invariant-loop-named : goal.invariant-loop-named
invariant-loop-named l =
    IsAhead l.program l.fn.text.items l.text.items (map (λ t. line.Name t.0 t.1) l.types)
    (map (λ t. line.Name t.0 t.1) l.left)

abbrev pub decreases-loop-named : goal.decreases-loop-named
decreases-loop-named l = length l.left
