use Rattle.std.proofs.Common.{◌≡◌, ◌<◌, ℕ, false}
use Rattle.nomos_state.specs.Indexed.{held_now}
use Rattle.nomos_state.specs.Sought.{passes_at}
use Rattle.nomos_deeds.specs.ProcessWalks.{is_acquiring, is_over}
use Rattle.nomos_state.proofs.walking.first_acquiring.Given as goal

-- none waits at the first places
abbrev pub invariant-loop-place : goal.invariant-loop-place
invariant-loop-place l =
    (before : ℕ) → before < l.place
    → passes_at (is_over l.after (is_acquiring l.accepted)) (held_now l.contents) before ≡ false
