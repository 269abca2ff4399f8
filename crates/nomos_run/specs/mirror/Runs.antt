-- How far a run of a script has come, as the code has it.
use Rattle.std.specs.Prelude.{◌≡◌, ℕ, List, length, take, true, Some}
use Rattle.std.specs.Option.{option_map}
use Rattle.nomos_types.specs.Acceptance.{Acceptance}
use Rattle.nomos_machine.specs.declared.policy.Policy.{Policy}
use Rattle.nomos_script.specs.declared.item.Batch.{Batch}
use Rattle.nomos_script.specs.declared.item.ScriptItem.{ScriptItem}
use Rattle.nomos_legal.specs.Ending.{IsAllowed}
use Rattle.nomos_legal.specs.Leaving.{left_by, passage_of}
use Rattle.nomos_legal.specs.Ledger.{LedgerState}
use Rattle.nomos_legal.specs.Legal.{PassesBy, TellsFrom, batch_limit}
use Rattle.nomos_legal.specs.Passage.{Passage}
use Rattle.nomos_legal.specs.World.{WorldState}
use Rattle.nomos_legal.specs.declared.journal.End.{End}
use Rattle.nomos_legal.specs.declared.journal.Entry.{Entry}
use Rattle.nomos_walk.specs.Coming.{HasCome, journal_of}
use Rattle.nomos_walk.specs.Papers.{kept_result}
use Rattle.nomos_walk.specs.WalkState.{WalkState}
use Rattle.nomos_walk.specs.Walks.{PassesAs, batch_entry, walk_with}
use Rattle.nomos_walk.specs.declared.papers.WantedTexts.{WantedTexts}
use Rattle.nomos_walk.specs.declared.started.PassedItem.{PassedItem}
use Rattle.nomos_workers.specs.declared.batch.BatchEnd.{BatchEnd}
use Rattle.nomos_workers.specs.declared.batch.BatchEnd.TheVariants as batch_end
use Rattle.nomos_workers.specs.declared.batch.Crew.{Crew}
use Rattle.nomos_workers.specs.declared.batch.Crew.TheVariants as crews
use Rattle.nomos_run.specs.Carried.{FollowsCrew}
use Rattle.nomos_run.specs.declared.orders.Orders.{Orders}
use Rattle.nomos_run.specs.declared.orders.WholeRun.{WholeRun}

-- what is wanted of a run by orders
abbrev pub wanted_by : Orders → WantedTexts
wanted_by orders = record { report = true; text = orders.text; result = orders.result }

-- ---- items

-- A batch that was run came to this end, which is allowed, and has passed with it.
pub record FinishesAs {M : Type 0} (before : WalkState) (line : ℕ) (v : WorldState) (ended : BatchEnd)
    (passed : PassedItem M) (after : WalkState) : Type 0 where
  pub answer : End
  pub ended_is : ended ≡ batch_end.Done answer
  pub allowed : IsAllowed before.accepted v.state (length v.firings) (batch_limit before.limit before.made) answer
  pub ledger : passed.ledger ≡ left_by answer v
  pub entry : passed.entry ≡ Some (batch_entry line v answer)
  pub walk : (batch : Batch) → batch.line ≡ line → after ≡ walk_with (passage_of before.accepted batch v answer) before

-- An item has passed: this became of it, and its firings are those of the crew.
pub record CarriesOut {M : Type 0} (crew : Crew) (before : WalkState) (l : LedgerState) (i : ScriptItem)
    (passed : PassedItem M) (after : WalkState) : Type 0 where
  pub passage : Passage
  pub passes : PassesAs before l i passage passed after
  pub by : (policy : Policy) → crew ≡ crews.One policy → PassesBy policy before.accepted passage passage.entry

-- ---- runs

-- What a run by orders has come to behind these items, from the first ledger: the entries that it keeps, the ledger,
-- and the walk.
pub record HasGone (a : Acceptance) (first : LedgerState) (orders : Orders) (items : List ScriptItem)
    (entries : List Entry) (l : LedgerState) (w : WalkState) : Type 0 where
  pub passages : List Passage
  pub come : HasCome a first orders.limit (wanted_by orders) items entries passages l w
  pub follows : FollowsCrew orders.crew a passages

-- a run for which memory was wanting behind so many first items
pub record RunsSoFar (a : Acceptance) (first : LedgerState) (items : List ScriptItem) (orders : Orders)
    (entries : List Entry) : Type 0 where
  pub count : ℕ
  pub passages : List Passage
  pub last : LedgerState
  pub tells : TellsFrom a first (take count items) (journal_of orders.limit entries) passages last
  pub follows : FollowsCrew orders.crew a passages

-- what is given of a walk that has come to its end, with the last ledger
pub record IsWholeOf {M : Type 0} (w : WalkState) (l : LedgerState) (whole : WholeRun M) : Type 0 where
  pub report : Some whole.report.items ≡ w.papers.report
  pub text : option_map (λ t. t.items) whole.text ≡ w.papers.text
  pub result : whole.last_result ≡ kept_result w.papers.result
  pub ledger : whole.ledger ≡ l
