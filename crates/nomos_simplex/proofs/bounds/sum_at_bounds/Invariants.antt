use Rattle.std.proofs.Common.{◌≡◌, ◌≤◌, ◌*◌, ◌^◌, take, unsigned_abs}
use Rattle.nomos_simplex.specs.mirror.Keeping.{sum_of}
use Rattle.nomos_simplex.proofs.bounds.sum_at_bounds.Given as goal

-- the sum of the places so far, none of which adds more than 2^107
abbrev pub invariant-loop-i : goal.invariant-loop-i
invariant-loop-i l = (l.sum ≡ sum_of (take l.i l.bounds) (take l.i l.coefs)) × (unsigned_abs l.sum ≤ l.i * 2 ^ 107)
