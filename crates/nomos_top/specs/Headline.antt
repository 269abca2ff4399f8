-- What a reader has to believe: what is accepted is typed, and what is typed is accepted; and what is kept is a run in
-- which nothing goes wrong.
use Rattle.std.specs.Prelude.{◌≡◌, ◌≢◌, ◌⊎◌, ℕ, ◌+◌, List, [], length, Option, Some, None, Ok, take, slice_get, sum_by}
use Rattle.nomos_accept.specs.TypedText.{IsTypedAs}
use Rattle.nomos_ir.specs.declared.lists.ProgramLists.{ProgramLists}
use Rattle.nomos_legal.specs.Ledger.{LedgerState, empty_ledger}
use Rattle.nomos_legal.specs.Legal.{TellsFrom}
use Rattle.nomos_legal.specs.Passage.{Passage, accepted_units}
use Rattle.nomos_legal.specs.Right.{AllGoRight}
use Rattle.nomos_legal.specs.StandsFor.{StandsFor}
use Rattle.nomos_script.specs.ScriptReading.{ReadsAs}
use Rattle.nomos_script.specs.declared.item.ScriptItem.{ScriptItem}
use Rattle.nomos_snapshot.specs.Loading.{Loads}
use Rattle.nomos_top.specs.Seen.{Call, Texts, Fails, Gives, IsDone}
use Rattle.nomos_top.specs.Tasks.{IsAlone, contract_of, script_of}
use Rattle.nomos_types.specs.Acceptance.{Acceptance}
use Rattle.nomos_types.specs.Amount.{Annotations}
use Rattle.nomos_words.specs.Commands.{Third, a_snapshot, row}
use Rattle.nomos_words.specs.Words.{Task, Asks}

-- ---- what is accepted

-- this program is given, under some amounts
abbrev pub GivesProgram : Call → ProgramLists → Type 0
GivesProgram c lists = (a : Acceptance) × Gives c a × (a.program ≡ lists)

-- What is accepted is typed, and what is typed is accepted.
pub record AcceptsTyped (c : Call) (t : Texts) : Type 0 where
  -- A program that is given is the one as which the text of the contract reads, typed under the amounts that are given.
  pub sound : (task : Task) (a : Acceptance) → Asks c.words task → Gives c a
      → IsTypedAs (contract_of task t.contract) a.program a.annotations
  -- A text that is typed under some amounts over some unit is never refused. Its program is given, or the solver
  -- stopped, or reading, writing or memory failed.
  pub complete : (task : Task) (lists : ProgramLists) (x : Annotations) → Asks c.words task
      → IsTypedAs (contract_of task t.contract) lists x
      → (c.status ≢ 1) × (GivesProgram c lists ⊎ ((c.status ≡ 8) ⊎ Fails c))

-- ---- what is kept

-- nothing was kept
abbrev pub HasNoEntry : Call → Type 0
HasNoEntry c = c.journal.entries ≡ []

-- the contract alone is asked about
abbrev pub AsksAlone : Call → Type 0
AsksAlone c = (task : Task) × Asks c.words task × IsAlone task

-- the ledger that a run begins with: the one that is loaded where the third text is a snapshot, and otherwise the empty
-- one
abbrev pub BeginsBy : Third → Acceptance → List ℕ → LedgerState → Type 0
BeginsBy (a_snapshot word) a text first = Loads a text (Ok first)
BeginsBy _ a text first = first ≡ empty_ledger

abbrev pub BeginsAt : Task → Acceptance → Texts → LedgerState → Type 0
BeginsAt task a t first = BeginsBy (row task).third a t.third first

-- the items that are run: those that were taken, where threads submit, and otherwise those as which the text
-- reads
abbrev pub CarriesBy : Option ℕ → Option (List ScriptItem) → List ℕ → List ScriptItem → Type 0
CarriesBy (Some threads) taken text items = taken ≡ Some items
CarriesBy None taken text items = ReadsAs text items

abbrev pub IsScriptOf : Call → Texts → Task → List ScriptItem → Type 0
IsScriptOf c t task items = CarriesBy (row task).threads c.taken (script_of task t.script) items

-- The script that a call carries out, and what became of its first items by the journal that is kept: of all of them,
-- where the call was done. It begins at the first ledger.
pub record Course (c : Call) (t : Texts) : Type 0 where
  pub task : Task
  pub asks : Asks c.words task
  pub a : Acceptance
  pub gives : Gives c a
  pub first : LedgerState
  pub begins : BeginsAt task a t first
  pub items : List ScriptItem
  pub script : IsScriptOf c t task items
  pub count : ℕ
  pub whole : IsDone c.status → count ≡ length items
  pub passages : List Passage
  pub last : LedgerState
  pub tells : TellsFrom a first (take count items) c.journal passages last

-- A run from a ledger goes right. This is said of the states before each of its passages, after each front of its
-- firings and behind it. There no process meets a message that it does not expect and none lacks gas, exactly the names
-- that objects mention have a type, and each linear channel has exactly one owner. There all gas, in accounts, in
-- purses and spent, is what was deposited so far. Accounts are debited once, at starts, and by no firing. The ledger to
-- which it leads stands for the program. It has the deposits of the first ledger and those that were carried out, and
-- the ledger before each passage those that were carried out until then.
pub record GoesRightTo (a : Acceptance) (first : LedgerState) (passages : List Passage) (last : LedgerState) : Type 0
  where
    pub right : AllGoRight a passages
    pub stands : StandsFor a last
    pub deposits : last.deposits ≡ first.deposits + sum_by accepted_units passages
    pub so_far : (k : ℕ) (p : Passage) → slice_get passages k ≡ Some p
        → p.before.deposits ≡ first.deposits + sum_by accepted_units (take k passages)

-- Every journal that is kept is a run of the machine in which nothing goes wrong.
pub record KeepsRuns (c : Call) (t : Texts) : Type 0 where
  -- a call that was done has gone through its whole script, if it has one
  pub done : IsDone c.status → AsksAlone c ⊎ Course c t
  -- with every status: an entry is never kept but of a course
  pub kept : HasNoEntry c ⊎ Course c t
  pub right : (k : Course c t) → GoesRightTo k.a k.first k.passages k.last
