use Rattle.std.proofs.Common.{◌≡◌, ◌<◌, ℕ, false}
use Rattle.nomos_state.specs.Sought.{some_passes, typed_at}
use Rattle.nomos_state.specs.IndexWalks.{is_owned_over}
use Rattle.nomos_state.proofs.walking.first_owned.Given as goal

-- the names at the first places are none
abbrev pub invariant-loop-place : goal.invariant-loop-place
invariant-loop-place l =
    (before : ℕ) → before < l.place
    → some_passes (is_owned_over l.accepted.program l.after) (typed_at l.contents.names.now before) ≡ false
