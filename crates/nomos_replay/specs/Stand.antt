-- Where a journal's text stands after its first lines, and which lines may stand there.
use Rattle.std.specs.Prelude.{◌≡◌, ◌<◌, ℕ, List, [], ◌∷◌, ◌++◌, length, Option, Some, None}
use Rattle.nomos_types.specs.Acceptance.{Acceptance}
use Rattle.nomos_machine.specs.Starting.{cleared}
use Rattle.nomos_machine.specs.State.{State}
use Rattle.nomos_machine.specs.Step.{step}
use Rattle.nomos_script.specs.declared.item.Batch.{Batch}
use Rattle.nomos_script.specs.declared.item.ScriptItem.{ScriptItem}
use Rattle.nomos_script.specs.declared.item.ScriptItem.TheVariants as item
use Rattle.nomos_legal.specs.Batch.{AllStart, OneRefuses, after_starts}
use Rattle.nomos_legal.specs.Ending.{IsAllowed}
use Rattle.nomos_legal.specs.Ledger.{LedgerState}
use Rattle.nomos_legal.specs.Legal.{IsLimit}
use Rattle.nomos_legal.specs.Passage.{bare, runs, still}
use Rattle.nomos_legal.specs.StandsFor.{Deposits}
use Rattle.nomos_legal.specs.declared.journal.End.{End}
use Rattle.nomos_legal.specs.declared.journal.End.TheVariants as end
use Rattle.nomos_legal.specs.declared.refusal.Refusal.{Refusal}
use Rattle.nomos_legal.specs.declared.resolved.Resolved.{Resolved}
use Rattle.nomos_journal.specs.JournalText.{firing_line}
use Rattle.nomos_journal.specs.declared.line.JournalLine.{JournalLine}
use Rattle.nomos_journal.specs.declared.line.JournalLine.TheVariants as line
use Rattle.nomos_journal.specs.declared.line.Version.{Version}
use Rattle.nomos_journal.specs.declared.line.Version.TheVariants as version
use Rattle.nomos_replay.specs.Told.{Told, next_limit, nothing_told, told_with}

-- ---- where a text stands

-- a batch under way: the batch, its starts as they were resolved, its firings so far, and the state that they reached
pub record UnderWay : Type 0 where
  pub batch : Batch
  pub starts : List Resolved
  pub firings : List ℕ
  pub state : State

pub data Stand : Type 0 where
  -- before the first line
  at_head : Stand
  -- behind it, in a text of this version
  at_steps : Version → Stand
  -- before what became of these items
  before : Version → Told → List ScriptItem → Stand
  -- behind the `line` of an item without firings, which has an end of its own and leaves a ledger; other items follow
  owes : Version → Told → ScriptItem → ℕ → End → LedgerState → List ScriptItem → Stand
  -- behind the `line` of a batch whose lines started, and its firings so far; other items follow
  fires : Version → Told → UnderWay → List ScriptItem → Stand

-- ---- lines of firings

-- the process of which a line says that it fires, in a text of this version
abbrev pub says_fired : Version → JournalLine → Option ℕ
says_fired version.One (line.Pid pid) = Some pid
says_fired version.Two (line.Worked pid gas) = Some pid
says_fired version.Two (line.Fired pid form) = Some pid
says_fired v l = None

-- The line says that this process fires, and the batch may make one more firing.
pub record SaysFiring (v : Version) (told : Told) (run : UnderWay) (l : JournalLine) (pid : ℕ) : Type 0 where
  pub process : says_fired v l ≡ Some pid
  pub left : length run.firings < next_limit told

-- ---- forms

-- the line of the script at which an item stands; a `show` has no entry
abbrev pub entry_at : ScriptItem → Option ℕ
entry_at (item.Deposit at name units) = Some at
entry_at (item.Batch batch) = Some batch.line
entry_at (item.Show at) = None

-- The line is of a form that may stand there.
pub data MayStand : Stand → JournalLine → Type 0 where
  head : (v : Version) → MayStand at_head (line.Head v)
  steps : (v : Version) (limit : ℕ) → IsLimit limit → MayStand (at_steps v) (line.Steps limit)
  item_line : (v : Version) (told : Told) (i : ScriptItem) (items : List ScriptItem) (at : ℕ) → entry_at i ≡ Some at
      → MayStand (before v told (i ∷ items)) (line.Line at)
  own_end : (v : Version) (told : Told) (i : ScriptItem) (at : ℕ) (own : End) (after : LedgerState)
      (items : List ScriptItem) (kept : End) → MayStand (owes v told i at own after items) (line.End kept)
  firing : (v : Version) (told : Told) (run : UnderWay) (items : List ScriptItem) (l : JournalLine) (pid : ℕ)
      → SaysFiring v told run l pid → MayStand (fires v told run items) l
  batch_end : (v : Version) (told : Told) (run : UnderWay) (items : List ScriptItem) (kept : End)
      → MayStand (fires v told run items) (line.End kept)

-- ---- lines that are right

-- What stands behind the `line` of an item, where the ledger before it is this one. A deposit, and a batch of which a
-- line is refused, has an end of its own; the lines of another batch start.
pub data Opens (a : Acceptance) (v : Version) (told : Told) (items : List ScriptItem) : ScriptItem → Stand → Type 0
  where
    deposit : (at : ℕ) (name : List ℕ) (units : ℕ) (own : End) (after : LedgerState)
        → Deposits a told.ledger at name units own after
        → Opens a v told items (item.Deposit at name units)
        (owes v told (item.Deposit at name units) at own after items)
    refused : (batch : Batch) (at : ℕ) (cause : Refusal) → OneRefuses a told.ledger batch.starts at cause
        → Opens a v told items (item.Batch batch)
        (owes v told (item.Batch batch) batch.line (end.Refused at cause) told.ledger items)
    started : (batch : Batch) (starts : List Resolved) → AllStart a told.ledger batch.starts starts
        → Opens a v told items (item.Batch batch)
        (fires v told
        (record {
          batch = batch;
          starts = starts;
          firings = [];
          state = (after_starts a told.ledger starts).state;
        })
        items)

-- the ledger after a batch that ends so: it stays, or is undone
abbrev pub ledger_after : LedgerState → LedgerState → State → End → LedgerState
ledger_after origin start s end.Committed = record start { state = cleared s }
ledger_after origin start s e = origin

-- what is told once a batch ends so
abbrev pub told_run : Acceptance → Told → UnderWay → End → Told
told_run a told run e =
    let start : LedgerState = after_starts a told.ledger run.starts in
    told_with told
    (runs run.batch run.firings e told.ledger start run.state (ledger_after told.ledger start run.state e))

-- The line is right where the text stands, from this first ledger and among all these items, and leads on.
pub data Goes (a : Acceptance) (first : LedgerState) (all : List ScriptItem) : Stand → JournalLine → Stand → Type 0
  where
    head : (v : Version) → Goes a first all at_head (line.Head v) (at_steps v)
    steps : (v : Version) (limit : ℕ) → IsLimit limit
        → Goes a first all (at_steps v) (line.Steps limit) (before v (nothing_told first limit) all)
    item_line : (v : Version) (told : Told) (i : ScriptItem) (items : List ScriptItem) (at : ℕ) (next : Stand)
        → entry_at i ≡ Some at → Opens a v told items i next
        → Goes a first all (before v told (i ∷ items)) (line.Line at) next
    own_end : (v : Version) (told : Told) (i : ScriptItem) (at : ℕ) (own : End) (after : LedgerState)
        (items : List ScriptItem) (kept : End) → kept ≡ own
        → Goes a first all (owes v told i at own after items) (line.End kept)
        (before v (told_with told (still i (bare at own) told.ledger after)) items)
    firing : (v : Version) (told : Told) (run : UnderWay) (items : List ScriptItem) (l : JournalLine) (pid : ℕ)
        (s : State) → SaysFiring v told run l pid → step a run.state pid ≡ Some s
        → firing_line v a run.state pid ≡ Some l
        → Goes a first all (fires v told run items) l
        (fires v told (record run { firings = run.firings ++ pid ∷ []; state = s }) items)
    batch_end : (v : Version) (told : Told) (run : UnderWay) (items : List ScriptItem) (kept : End)
        → IsAllowed a run.state (length run.firings) (next_limit told) kept
        → Goes a first all (fires v told run items) (line.End kept) (before v (told_run a told run kept) items)
