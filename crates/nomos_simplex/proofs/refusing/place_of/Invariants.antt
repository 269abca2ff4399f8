use Rattle.std.proofs.Common.{◌<◌, ℕ, slice_index_or}
use Rattle.nomos_simplex.proofs.refusing.place_of.Given as goal

-- those before are lower
abbrev pub invariant-loop-place : goal.invariant-loop-place
invariant-loop-place l = (k : ℕ) → k < l.place → (slice_index_or l.weights k (0, 0)).0 < l.variable
