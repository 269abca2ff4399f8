use Rattle.std.proofs.Common.{◌≡◌, ◌<◌, length, map, pos, int_lt, slice_index, slice_index_or, IfSome}
use Rattle.nomos_simplex.specs.LowestVariable.{lowest_place}
use Rattle.nomos_simplex.proofs.choosing.leaving_of.Given as goal

-- the choice among the lines so far
abbrev pub invariant-loop-place : goal.invariant-loop-place
invariant-loop-place l = record {
  choice : l.best ≡ lowest_place (λ i. int_lt (slice_index_or l.over i (pos 0)) (pos 0))
      (λ i. slice_index (map (λ line. line.basic) l.lines) i) l.place;
  place : IfSome l.best (λ best. best < length l.lines);
}
