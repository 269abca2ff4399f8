use Rattle.std.proofs.Common.{◌≤◌, ◌<◌, ℕ}
use Rattle.nomos_ready.specs.Covering.{IsFollowed, IsNoted, MayBeReady}
use Rattle.nomos_ready.proofs.seeking.awake_from.Given as goal

-- all so far may be ready, no name is followed but the new ones, and none is noted
abbrev pub invariant-processes : goal.invariant-processes
invariant-processes g l = record {
  woken : (q : ℕ) → l.first ≤ q → q < l.pid → MayBeReady l.awake q;
  followed : (name : ℕ) → IsFollowed l.awake name → l.first_name ≤ name;
  noted : (name q : ℕ) → IsNoted l.awake name q → ⊥;
}
