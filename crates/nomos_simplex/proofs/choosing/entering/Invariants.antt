use Rattle.std.proofs.Common.{◌≡◌, ◌<◌, length, pos, int_lt, slice_index, slice_index_or, IfSome}
use Rattle.nomos_simplex.specs.LowestVariable.{lowest_place}
use Rattle.nomos_simplex.proofs.choosing.entering.Given as goal

-- the choice among the columns so far
abbrev pub invariant-loop-column : goal.invariant-loop-column
invariant-loop-column l = record {
  choice : l.best ≡ lowest_place (λ j. int_lt (pos 0) (slice_index_or l.coefs j (pos 0))) (λ j. slice_index l.nonbasic
      j) l.column;
  column : IfSome l.best (λ best. best < length l.nonbasic);
}
