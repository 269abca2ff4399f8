-- A mirror of the code: what one look of a worker comes to. No promise stands on it.
use Rattle.std.specs.Prelude.{◌≡◌, ℕ, All, length}
use Rattle.nomos_types.specs.Acceptance.{Acceptance}
use Rattle.nomos_machine.specs.Policies.{FollowsPolicy, IsChosen}
use Rattle.nomos_machine.specs.declared.policy.Policy.{Policy}
use Rattle.nomos_legal.specs.Ending.{IsAllowed}
use Rattle.nomos_legal.specs.Legal.{Aborts}
use Rattle.nomos_legal.specs.StandsFor.{WorldStandsFor}
use Rattle.nomos_legal.specs.World.{WorldState, pids_of, ledger_begun}
use Rattle.nomos_legal.specs.declared.journal.Firing.{Firing}
use Rattle.nomos_ledger.specs.Calls.{HasFired}
use Rattle.nomos_workers.specs.declared.one.Stepped.{Stepped}
use Rattle.nomos_workers.specs.declared.one.Stepped.TheVariants as stepped

-- a firing by one worker
abbrev pub firing_of : ℕ → Firing
firing_of pid = record { pass = 0; pid = pid }

-- the process that the policy chooses fired, before the limit; or the batch ends, an abort is that of this process, and
-- the world is as it was
abbrev pub Steps : Policy → Acceptance → ℕ → ℕ → WorldState → Stepped → WorldState → Type 0
Steps policy a limit last before (stepped.Fired pid) after =
    IsChosen policy a before.state last pid × HasFired a before (firing_of pid) after
Steps policy a limit last before (stepped.Ends e) after =
    (after ≡ before) × IsAllowed a before.state (length before.firings) limit e
    × Aborts (IsChosen policy a before.state last) e

-- a worker has made so many firings from the first world on, the last one that of this process, or of none, which is 0
pub record HasMade (policy : Policy) (a : Acceptance) (made last : ℕ) (before after : WorldState) : Type 0 where
  pub stands : WorldStandsFor a after
  pub origin : after.origin ≡ before.origin
  pub starts : after.starts ≡ before.starts
  pub count : length after.firings ≡ made
  pub passes : All (λ f. f.pass ≡ 0) after.firings
  pub follows : FollowsPolicy policy a (ledger_begun a after).state 0 (pids_of after.firings) after.state last
