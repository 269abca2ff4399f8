-- What one worker makes of a batch, by a policy.
use Rattle.std.specs.Prelude.{◌≡◌, ℕ, All, length}
use Rattle.nomos_types.specs.Acceptance.{Acceptance}
use Rattle.nomos_machine.specs.Policies.{IsChosenAfter, IsRunOf}
use Rattle.nomos_machine.specs.declared.policy.Policy.{Policy}
use Rattle.nomos_legal.specs.Ending.{IsAllowed}
use Rattle.nomos_legal.specs.Legal.{Aborts}
use Rattle.nomos_legal.specs.World.{WorldState, pids_of, ledger_begun}
use Rattle.nomos_ledger.specs.Running.{RunsOn}
use Rattle.nomos_workers.specs.declared.batch.BatchEnd.{BatchEnd}
use Rattle.nomos_workers.specs.declared.batch.BatchEnd.TheVariants as batch_end

-- The second world is the first one after firings of pass 0, which the policy chooses from the start on.
pub record RunsBy (policy : Policy) (a : Acceptance) (limit : ℕ) (before after : WorldState) : Type 0 where
  pub runs : RunsOn a limit before after
  pub passes : All (λ f. f.pass ≡ 0) after.firings
  pub chosen : IsRunOf policy a (ledger_begun a after).state (pids_of after.firings) after.state

-- The end is one that is allowed where the world has come to, and an abort is that of the process which the policy
-- chooses there. Want of memory is free.
abbrev pub EndsBy : Policy → Acceptance → ℕ → WorldState → BatchEnd → Type 0
EndsBy policy a limit w (batch_end.Done e) =
    IsAllowed a w.state (length w.firings) limit e
    × Aborts (IsChosenAfter policy a (ledger_begun a w).state (pids_of w.firings) w.state) e
EndsBy policy a limit w batch_end.NoMemory = Unit {0}
