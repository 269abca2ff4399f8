-- A law of batches that one worker ran, for those who keep a journal: the passage of such a batch follows the policy.
use Rattle.std.proofs.Common.{ℕ}
use Rattle.nomos_types.specs.Acceptance.{Acceptance}
use Rattle.nomos_machine.specs.Policies.{IsChosenAfter}
use Rattle.nomos_machine.specs.declared.policy.Policy.{Policy}
use Rattle.nomos_script.specs.declared.item.Batch.{Batch}
use Rattle.nomos_legal.specs.Leaving.{passage_of}
use Rattle.nomos_legal.specs.Legal.{Aborts, PassesBy}
use Rattle.nomos_legal.specs.World.{WorldState, pids_of, ledger_begun}
use Rattle.nomos_legal.specs.declared.journal.End.{End}
use Rattle.nomos_workers.specs.OneWorker.{RunsBy}

module _ (policy : Policy) (a : Acceptance) where
  -- the passage of a batch that one worker ran follows the policy
  pub ran-follows : (limit : ℕ) (batch : Batch) (before after : WorldState) (e : End)
      → RunsBy policy a limit before after
      → Aborts (IsChosenAfter policy a (ledger_begun a after).state (pids_of after.firings) after.state) e
      → PassesBy policy a (passage_of a batch after e) (passage_of a batch after e).entry
  ran-follows limit batch before after e ran aborts = (ran.chosen, aborts)
