-- Legal journals that follow a policy grow passage by passage.
use Rattle.std.proofs.Common.{ℕ, List, [], ◌∷◌, ◌++◌}
use Rattle.std.proofs.lemmas.List.Elements.{All-nil, All-push}
use Rattle.nomos_types.specs.Acceptance.{Acceptance}
use Rattle.nomos_machine.specs.Policies.{IsChosen, FollowsPolicy, IsChosenAfter}
use Rattle.nomos_machine.specs.Policies as policies
use Rattle.nomos_machine.specs.State.{State}
use Rattle.nomos_machine.specs.declared.policy.Policy.{Policy}
use Rattle.nomos_script.specs.declared.item.Batch.{Batch}
use Rattle.nomos_script.specs.declared.item.ScriptItem.{ScriptItem}
use Rattle.nomos_legal.specs.Ledger.{LedgerState}
use Rattle.nomos_legal.specs.Legal.{Aborts, PassesBy, FollowPolicy}
use Rattle.nomos_legal.specs.Passage.{Passage, bare, runs, still}
use Rattle.nomos_legal.specs.declared.journal.End.{End}
use Rattle.nomos_legal.specs.declared.journal.End.TheVariants as end

-- what holds of the process that an end names still does where less is asked of processes
pub aborts-weaker : (P Q : ℕ → Type 0) → ((pid : ℕ) → P pid → Q pid) → (e : End) → Aborts P e → Aborts Q e
aborts-weaker P Q weaker (end.Aborted pid f) aborts = weaker pid aborts
aborts-weaker P Q weaker end.Deposited aborts = tt
aborts-weaker P Q weaker end.Committed aborts = tt
aborts-weaker P Q weaker end.Blocked aborts = tt
aborts-weaker P Q weaker (end.Steps n) aborts = tt
aborts-weaker P Q weaker (end.Refused line cause) aborts = tt

module _ (kind : Policy) (a : Acceptance) where
  -- no passages follow it
  pub follow-none : FollowPolicy kind a []
  follow-none = All-nil (λ (p : Passage). PassesBy kind a p p.entry)

  -- one passage more
  pub follow-more : (ps : List Passage) (p : Passage) → FollowPolicy kind a ps → PassesBy kind a p p.entry
      → FollowPolicy kind a (ps ++ p ∷ [])
  follow-more ps p follow more = All-push (λ (q : Passage). PassesBy kind a q q.entry) ps p follow more

  -- an item without firings whose end names no process
  pub still-follows : (i : ScriptItem) (l after : LedgerState) (line : ℕ) (answer : End)
      → ((P : ℕ → Type 0) → Aborts P answer)
      → PassesBy kind a (still i (bare line answer) l after) (bare line answer)
  still-follows i l after line answer names_none =
      (record { last = 0; follows = policies.done l.state 0 }, names_none (IsChosenAfter kind a l.state [] l.state))

  -- a batch whose firings are those that it chooses, and so the process that its end names
  pub batch-follows : (batch : Batch) (pids : List ℕ) (answer : End) (before start : LedgerState) (t : State)
      (after : LedgerState) (last : ℕ) → FollowsPolicy kind a start.state 0 pids t last
      → Aborts (IsChosen kind a t last) answer
      → PassesBy kind a (runs batch pids answer before start t after)
      (runs batch pids answer before start t after).entry
  batch-follows batch pids answer before start t after last follows chosen = (
    record { last = last; follows = follows },
    aborts-weaker (IsChosen kind a t last) (IsChosenAfter kind a start.state pids t)
        (λ pid chosen. record { last = last; follows = follows; chosen = chosen }) answer chosen,
  )
