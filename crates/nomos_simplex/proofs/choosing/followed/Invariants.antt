use Rattle.std.proofs.Common.{◌≡◌, ◌<◌, length, slice_index, IfSome}
use Rattle.std.specs.Prelude.{nat_lt}
use Rattle.nomos_simplex.specs.LowestVariable.{lowest_place}
use Rattle.nomos_simplex.specs.mirror.Classes.{class_at}
use Rattle.nomos_simplex.proofs.choosing.followed.Given as goal

-- the choice among the columns so far
abbrev pub invariant-loop-column : goal.invariant-loop-column
invariant-loop-column l = record {
  choice : l.best ≡ lowest_place (λ j. nat_lt (slice_index l.nonbasic j) (class_at l.classes j).last)
      (λ j. slice_index l.nonbasic j) l.column;
  column : IfSome l.best (λ best. best < length l.nonbasic);
}
