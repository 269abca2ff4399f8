-- What the code finds and makes on the way to what is due. The calls that do a part of it cite it; no statement does.
use Rattle.std.specs.Prelude.{◌≡◌, ◌≢◌, ℕ, ◌<◌, ◌^◌, ◌++◌, Bool, List, take, length, Some, None, Result, Ok, Err, codes}
use Rattle.nomos_types.specs.Acceptance.{Acceptance}
use Rattle.nomos_ir.specs.Limits.{text_limit}
use Rattle.nomos_script.specs.ScriptReading.{ReadsAs, IsSyntaxAt}
use Rattle.nomos_script.specs.declared.item.ScriptItem.{ScriptItem}
use Rattle.nomos_legal.specs.Ledger.{LedgerState}
use Rattle.nomos_legal.specs.NextNumbers.{HasNumbered}
use Rattle.nomos_legal.specs.Passage.{Passage}
use Rattle.nomos_legal.specs.StandsFor.{StandsFor}
use Rattle.nomos_legal.specs.declared.journal.Journal.{Journal}
use Rattle.nomos_report.specs.Reported.{report_of, run_status}
use Rattle.nomos_walk.specs.Wanted.{journal_text_of, result_behind, where_wanted}
use Rattle.nomos_run.specs.declared.orders.Orders.{Orders}
use Rattle.nomos_words.specs.Options.{usual_limit}
use Rattle.nomos_words.specs.Summary.{summary_text}
use Rattle.nomos_answers.specs.Benches.{figures_of}
use Rattle.nomos_answers.specs.DueLines.{IsNoScript, no_entries, read_fault_line}
use Rattle.nomos_answers.specs.Outside.{HasText, HaveRisen, Input, SourceState, input_of}
use Rattle.nomos_answers.specs.RunsDue.{HasRun, HasRunFrom, usual_orders}
use Rattle.nomos_answers.specs.Sources.{kept_text}
use Rattle.nomos_pool.specs.Pooled.{PoolsTo}
use Rattle.nomos_script.specs.TalkReading.{AnswersTalk, ReadsAsTalk}
use Rattle.nomos_script.specs.declared.talk_line.TalkLine.{TalkLine}
use Rattle.nomos_script.specs.declared.talk_parsing.TalkError.TheVariants as talk_error
use Rattle.nomos_monitor.specs.TalkCourse.{TalkReply}
use Rattle.nomos_snapshot.specs.Loading.{Loads}
use Rattle.nomos_snapshot.specs.Saving.{Saves}
use Rattle.nomos_snapshot.specs.declared.error.LoadError.TheVariants as load_error
use Rattle.nomos_snapshot.specs.declared.error.SaveError.{SaveError}
use Rattle.nomos_answers.specs.Pools.{pool_refusal}
use Rattle.nomos_answers.specs.SnapshotLines.{unloaded_line, unsaved_line}
use Rattle.nomos_answers.specs.TalkDue.{IsNoTalk, talk_status}
use Rattle.nomos_visit.specs.TalkText.{turns_of}
use Rattle.nomos_visit.specs.Visits.{HoldsTalkIn, told_of_talk}
use Rattle.nomos_answers.specs.declared.benches.Load.{Load}
use Rattle.nomos_answers.specs.declared.due.Due.{Due}
use Rattle.nomos_answers.specs.declared.pools.PoolDue.{PoolDue}
use Rattle.nomos_answers.specs.declared.pools.PoolPart.{PoolPart}
use Rattle.nomos_answers.specs.declared.resumes.NoLedger.{NoLedger}
use Rattle.nomos_answers.specs.declared.resumes.NoLedger.TheVariants as no_ledger
use Rattle.nomos_answers.specs.declared.script_found.NoScript.{NoScript}
use Rattle.nomos_answers.specs.declared.talks.NoTalk.{NoTalk}
use Rattle.nomos_answers.specs.declared.talks.NoTalk.TheVariants as no_talk
use Rattle.nomos_answers.specs.declared.script_found.NoScript.TheVariants as none

-- why there is no script
abbrev pub IsMissing : Input → NoScript → Type 0
IsMissing script none.TooLong = text_limit < length script.text
IsMissing script (none.Syntax k) = IsSyntaxAt script.text k
IsMissing script none.ReadFault = HaveRisen script.counts
IsMissing script none.NoMemory = Unit {0}

-- what is found of a script
abbrev pub FindsIn : Input → Result (List ScriptItem) NoScript → Type 0
FindsIn script (Ok items) = ReadsAs script.text items
FindsIn script (Err why) = IsMissing script why

abbrev pub Finds : SourceState → Result (List ScriptItem) NoScript → Type 0
Finds source found = (text : List ℕ) × HasText source.left text × FindsIn (input_of source text) found

-- what is due consists of these parts, where nothing was run
pub record IsBare (due : Due) (status : ℕ) (text : List ℕ) (limit : ℕ) : Type 0 where
  pub status_is : due.status ≡ status
  pub text_is : due.out.items ≡ text
  pub nothing_kept : kept_text due ≡ None
  pub nothing_run : due.journal ≡ no_entries limit

-- what is due where there is no script
pub record IsBareOf (script : Input) (limit : ℕ) (due : Due) : Type 0 where
  pub is : IsNoScript script due.status due.out.items
  pub nothing_kept : kept_text due ≡ None
  pub nothing_run : due.journal ≡ no_entries limit

-- what is due of a run of these items
pub record HasRunAs (a : Acceptance) (items : List ScriptItem) (orders : Orders) (due : Due) : Type 0 where
  pub passages : List Passage
  pub last : LedgerState
  pub run : HasRun a items orders due.journal passages last
  pub stands : StandsFor a last
  pub status_is : due.status ≡ run_status due.journal.entries
  pub text_is : due.out.items ≡ report_of a passages
  pub kept_is : kept_text due ≡ where_wanted orders.text (journal_text_of a orders.limit passages)

-- what is due of a load whose script has these items
pub record HasRunLoad (a : Acceptance) (items : List ScriptItem) (orders : Orders) (load : Load) (due : Due)
    : Type 0 where
  pub passages : List Passage
  pub last : LedgerState
  pub run : HasRun a items orders due.journal passages last
  pub stands : StandsFor a last
  pub status_is : due.status ≡ run_status due.journal.entries
  pub text_is : due.out.items ≡ summary_text (figures_of load a due.journal last) (result_behind None passages)
  pub nothing_kept : kept_text due ≡ None

-- the journal of a run of some first items
pub record HasRunPart (a : Acceptance) (items : List ScriptItem) (orders : Orders) (journal : Journal) : Type 0 where
  pub count : ℕ
  pub passages : List Passage
  pub last : LedgerState
  pub run : HasRun a (take count items) orders journal passages last

-- ---- where threads submit

-- the same, and nothing was taken
abbrev pub untaken_of : Result Due Journal → Result PoolDue PoolPart
untaken_of (Ok d) = Ok (record { due = d; taken = None })
untaken_of (Err j) = Err (record { journal = j; taken = None })

-- what is due of a script with these items
pub data PoolsIn (a : Acceptance) (threads : ℕ) (items : List ScriptItem) (p : PoolDue) : Type 0 where
  taken : (these : List ScriptItem) → PoolsTo threads items (Ok these) → HasRunAs a these usual_orders p.due
      → p.taken ≡ Some these → PoolsIn a threads items p
  untaken : (k : ℕ) → PoolsTo threads items (Err k) → IsBare p.due 2 (pool_refusal k) usual_limit → p.taken ≡ None
      → PoolsIn a threads items p

-- what is known of it where memory was wanting
pub data PoolsInPart (a : Acceptance) (threads : ℕ) (items : List ScriptItem) (p : PoolPart) : Type 0 where
  taken_part : (these : List ScriptItem) → PoolsTo threads items (Ok these) → HasRunPart a these usual_orders p.journal
      → p.taken ≡ Some these → PoolsInPart a threads items p
  nothing_taken : p.journal ≡ no_entries usual_limit → p.taken ≡ None → PoolsInPart a threads items p

-- ---- talks

-- why there is no text of a talk
abbrev pub IsNoTalkOf : Input → NoTalk → Type 0
IsNoTalkOf text no_talk.ReadFault = HaveRisen text.counts
IsNoTalkOf text (no_talk.Refused why) = AnswersTalk text.text (Err why)

-- what is found of the text of a talk
abbrev pub FindsTalkIn : Input → Result (List (ℕ × TalkLine)) NoTalk → Type 0
FindsTalkIn text (Ok lines) = ReadsAsTalk text.text lines
FindsTalkIn text (Err why) = IsNoTalkOf text why

abbrev pub FindsTalk : SourceState → Result (List (ℕ × TalkLine)) NoTalk → Type 0
FindsTalk source found = (text : List ℕ) × HasText source.left text × FindsTalkIn (input_of source text) found

-- what is due where there is no text of a talk
pub record HasNoTalk (why : NoTalk) (due : Due) : Type 0 where
  pub known : why ≢ no_talk.Refused talk_error.NoMemory
  pub is : (text : Input) → IsNoTalkOf text why → IsNoTalk text due.status due.out.items
  pub nothing_kept : kept_text due ≡ None
  pub nothing_run : due.journal ≡ no_entries usual_limit

-- what is due of a whole run with this journal, this report and this last ledger, with a talk of these lines behind it
pub record TalksWhole (a : Acceptance) (name proc : List ℕ) (lines : List (ℕ × TalkLine)) (journal : Journal)
    (report : List ℕ) (last : LedgerState) (due : Due) : Type 0 where
  pub fine : Bool
  pub replies : List TalkReply
  pub holds : HoldsTalkIn a last name proc usual_limit (turns_of a.program lines) fine replies
  pub status_is : due.status ≡ talk_status fine journal.entries
  pub text_is : due.out.items ≡ report ++ told_of_talk a lines replies
  pub nothing_kept : kept_text due ≡ None
  pub journal_is : due.journal ≡ journal

-- what is due of a script with these items, with a talk of these lines behind it
pub record TalksOf (a : Acceptance) (name proc : List ℕ) (lines : List (ℕ × TalkLine)) (items : List ScriptItem)
    (due : Due) : Type 0 where
  pub journal : Journal
  pub passages : List Passage
  pub last : LedgerState
  pub run : HasRun a items usual_orders journal passages last
  pub stands : StandsFor a last
  pub whole : TalksWhole a name proc lines journal (report_of a passages) last due

-- what is due of it with the talk that a source has
pub data TalksIn (a : Acceptance) (name proc : List ℕ) (items : List ScriptItem) (source : SourceState) (due : Due)
    : Type 0 where
  talked : (text : List ℕ) (lines : List (ℕ × TalkLine)) → HasText source.left text → ReadsAsTalk text lines
      → TalksOf a name proc lines items due → TalksIn a name proc items source due
  untold : (text : List ℕ) (why : NoTalk) → HasText source.left text → IsNoTalkOf (input_of source text) why
      → HasNoTalk why due → TalksIn a name proc items source due

-- ---- snapshots

-- what is due of a whole run with this journal, this report and this last ledger, where the ledger is to be saved
pub data SavesWhole (a : Acceptance) (journal : Journal) (report : List ℕ) (last : LedgerState) (due : Due) : Type 0
  where
    saved : (text : List ℕ) → Saves a last (Ok text) → Loads a text (Ok last) → due.status ≡ run_status journal.entries
        → due.out.items ≡ report → kept_text due ≡ Some text → due.journal ≡ journal
        → SavesWhole a journal report last due
    unsaved : (why : SaveError) → Saves a last (Err why) → IsBare due 11 (unsaved_line why) usual_limit
        → SavesWhole a journal report last due

-- what is due of a script with these items, whose ledger is to be saved
pub record SavesIn (a : Acceptance) (items : List ScriptItem) (due : Due) : Type 0 where
  pub journal : Journal
  pub passages : List Passage
  pub last : LedgerState
  pub run : HasRun a items usual_orders journal passages last
  pub stands : StandsFor a last
  pub whole : SavesWhole a journal (report_of a passages) last due

-- why there is no ledger to begin at
abbrev pub IsNoLedgerOf : Acceptance → Input → NoLedger → Type 0
IsNoLedgerOf a snapshot no_ledger.ReadFault = HaveRisen snapshot.counts
IsNoLedgerOf a snapshot (no_ledger.Refused why) = why ≢ load_error.NoMemory → Loads a snapshot.text (Err why)

-- what is found of a snapshot
abbrev pub FindsLedgerIn : Acceptance → Input → Result LedgerState NoLedger → Type 0
FindsLedgerIn a snapshot (Ok first) = Loads a snapshot.text (Ok first)
FindsLedgerIn a snapshot (Err why) = IsNoLedgerOf a snapshot why

abbrev pub FindsLedger : Acceptance → SourceState → Result LedgerState NoLedger → Type 0
FindsLedger a source found = (text : List ℕ) × HasText source.left text × FindsLedgerIn a (input_of source text) found

-- A run may go on from this ledger: it stands for the program, and leaves room for numbers and accounts.
pub record MayGoOn (a : Acceptance) (l : LedgerState) : Type 0 where
  pub stands : StandsFor a l
  pub numbers : HasNumbered (2 ^ 31) l.state
  pub accounts : length l.accounts < 2 ^ 31

-- the status and the line where there is no ledger to begin at
abbrev pub IsLineOfNoLedger : NoLedger → Due → Type 0
IsLineOfNoLedger no_ledger.ReadFault due = IsBare due 5 (read_fault_line (codes "snapshot")) usual_limit
IsLineOfNoLedger (no_ledger.Refused why) due = IsBare due 11 (unloaded_line why) usual_limit

-- what is due where there is no ledger to begin at
pub record HasNoLedger (why : NoLedger) (due : Due) : Type 0 where
  pub known : why ≢ no_ledger.Refused load_error.NoMemory
  pub line : IsLineOfNoLedger why due

-- what is due of a run of these items from a ledger
pub record RunsFrom (a : Acceptance) (first : LedgerState) (items : List ScriptItem) (due : Due) : Type 0 where
  pub passages : List Passage
  pub last : LedgerState
  pub run : HasRunFrom a first items usual_orders due.journal passages last
  pub stands : StandsFor a last
  pub status_is : due.status ≡ run_status due.journal.entries
  pub text_is : due.out.items ≡ report_of a passages
  pub nothing_kept : kept_text due ≡ None

-- the journal of a run of some first items from a ledger
pub record RunsFromPart (a : Acceptance) (first : LedgerState) (items : List ScriptItem) (journal : Journal) : Type 0
  where
    pub count : ℕ
    pub passages : List Passage
    pub last : LedgerState
    pub run : HasRunFrom a first (take count items) usual_orders journal passages last

-- what is due of a run from a ledger of the script that a source has
pub data ResumesIn (a : Acceptance) (first : LedgerState) (source : SourceState) (due : Due) : Type 0 where
  ran : (text : List ℕ) (items : List ScriptItem) → HasText source.left text → ReadsAs text items
      → RunsFrom a first items due → ResumesIn a first source due
  not_read : (text : List ℕ) → HasText source.left text → IsBareOf (input_of source text) usual_limit due
      → ResumesIn a first source due

-- the journal of it where memory was wanting
pub data ResumesInPart (a : Acceptance) (first : LedgerState) (source : SourceState) (journal : Journal) : Type 0 where
  ran_part : (text : List ℕ) (items : List ScriptItem) → HasText source.left text → ReadsAs text items
      → RunsFromPart a first items journal → ResumesInPart a first source journal
  not_ran : journal ≡ no_entries usual_limit → ResumesInPart a first source journal
