-- What a run of a script came to: of its first items, or of all of them.
use Rattle.std.specs.Prelude.{◌≡◌, ℕ, List, length, take, IfSome}
use Rattle.std.specs.Option.{option_map}
use Rattle.nomos_types.specs.Acceptance.{Acceptance}
use Rattle.nomos_machine.specs.declared.policy.Policy.{Policy}
use Rattle.nomos_script.specs.declared.item.ScriptItem.{ScriptItem}
use Rattle.nomos_legal.specs.Ledger.{LedgerState, empty_ledger}
use Rattle.nomos_legal.specs.Legal.{FollowPolicy, TellsFrom}
use Rattle.nomos_legal.specs.Passage.{Passage}
use Rattle.nomos_legal.specs.StandsFor.{StandsFor}
use Rattle.nomos_report.specs.Reported.{report_of}
use Rattle.nomos_walk.specs.Wanted.{journal_text_of, result_where_wanted, where_wanted}
use Rattle.nomos_workers.specs.declared.batch.Crew.{Crew}
use Rattle.nomos_workers.specs.declared.batch.Crew.TheVariants as crews
use Rattle.nomos_run.specs.declared.orders.Orders.{Orders}
use Rattle.nomos_run.specs.declared.orders.WholeRun.{WholeRun}
use Rattle.nomos_run.specs.declared.orders.ScriptRun.{ScriptRun}

-- where one worker runs the batches, all firings are those that its policy chooses
abbrev pub FollowsCrew : Crew → Acceptance → List Passage → Type 0
FollowsCrew crew a ps = (policy : Policy) → crew ≡ crews.One policy → FollowPolicy policy a ps

-- All items have passed, and this became of them. What is given is their report, the text of their journal where
-- it was wanted, the last result where it was wanted, and the ledger to which they lead, which stands for the program.
pub record IsWholeRun {M : Type 0} (a : Acceptance) (orders : Orders) (ps : List Passage) (last : LedgerState)
    (finished : WholeRun M) : Type 0 where
  pub report : finished.report.items ≡ report_of a ps
  pub text : option_map (λ t. t.items) finished.text ≡ where_wanted orders.text (journal_text_of a orders.limit ps)
  pub result : finished.last_result ≡ result_where_wanted orders.result ps
  pub ledger : finished.ledger ≡ last
  pub stands : StandsFor a finished.ledger

-- From the first ledger so many first items have passed, and this became of them: the journal is theirs, within the
-- limit, and their firings are those of the crew. Where more than the journal is given, all items have passed.
pub record RunsScriptFrom {M : Type 0} (a : Acceptance) (first : LedgerState) (items : List ScriptItem)
    (orders : Orders)
    (run : ScriptRun M) : Type 0 where
  pub count : ℕ
  pub passages : List Passage
  pub last : LedgerState
  pub limit : run.journal.limit ≡ orders.limit
  pub tells : TellsFrom a first (take count items) run.journal passages last
  pub follows : FollowsCrew orders.crew a passages
  pub all : IfSome run.finished (λ f. (count ≡ length items) × IsWholeRun a orders passages last f)

-- from the empty ledger
abbrev pub RunsScript : {M : Type 0} → Acceptance → List ScriptItem → Orders → ScriptRun M → Type 0
RunsScript a items orders run = RunsScriptFrom a empty_ledger items orders run
