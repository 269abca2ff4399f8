use Rattle.std.proofs.Common.{◌≡◌, ◌<◌, ℕ, false}
use Rattle.nomos_state.specs.Indexed.{held_now}
use Rattle.nomos_state.specs.Sought.{passes_at}
use Rattle.nomos_deeds.specs.ProcessWalks.{is_over, is_ready_in}
use Rattle.nomos_state.proofs.walking.first_ready.Given as goal

-- none is ready at the first places
abbrev pub invariant-loop-place : goal.invariant-loop-place
invariant-loop-place g l =
    (before : ℕ) → before < l.place
    → passes_at (is_over l.after (is_ready_in l.accepted (g.S.Sight.state l.sight))) (held_now l.contents) before
    ≡ false
