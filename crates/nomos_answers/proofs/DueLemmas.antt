-- What is due, from its parts.
use Rattle.std.proofs.Common.{◌≡◌, ◌≢◌, ℕ, ◌≤◌, List, length, Option, Some, None, Result, Ok, Err, Vec, inl, refl, arith}
use Rattle.std.specs.Prelude.{IfOk}
use Rattle.std.specs.Global.{Global}
use Rattle.nomos_types.specs.Acceptance.{Acceptance, IsAccepted}
use Rattle.nomos_script.specs.ScriptReading.{ReadsAs}
use Rattle.nomos_script.specs.Size.{IsScriptSize}
use Rattle.nomos_script.specs.declared.item.ScriptItem.{ScriptItem}
use Rattle.nomos_script.proofs.ReadingLaws.{reads_once, reads_without_syntax}
use Rattle.nomos_legal.specs.Ledger.{LedgerState}
use Rattle.nomos_legal.specs.StandsFor.{StandsFor}
use Rattle.nomos_legal.specs.declared.journal.Journal.{Journal}
use Rattle.nomos_journal.specs.JournalText.{IsTextOf}
use Rattle.nomos_journal.specs.declared.line.Version.{Version}
use Rattle.nomos_report.specs.Reported.{run_status}
use Rattle.nomos_replay.specs.Answers.{Answers, max_bytes}
use Rattle.nomos_replay.specs.Refusal.{refusal_line}
use Rattle.nomos_replay.specs.Replayed.{HasReplayed, IsRefusedSo}
use Rattle.nomos_script.specs.WrittenItems.{AreWritten}
use Rattle.nomos_replay.specs.declared.error.ReplayError.{ReplayError}
use Rattle.nomos_replay.specs.declared.error.ReplayError.TheVariants as error
use Rattle.nomos_replay.proofs.FormLaws.{journal-form}
use Rattle.nomos_replay.proofs.LengthLaws.{journal-within}
use Rattle.nomos_run.specs.declared.orders.Orders.{Orders}
use Rattle.nomos_answers.specs.Finding.{IsBare, IsBareOf, HasRunAs, HasRunPart}
use Rattle.nomos_answers.specs.DueLines.{IsNoScript, fault, too_long, syntax, no_entries}
use Rattle.nomos_answers.specs.Outside.{FaultCounts, HasText, Input, SourceState, input_of}
use Rattle.nomos_answers.specs.Replays as replays
use Rattle.nomos_answers.specs.Replays.{IsJournalDue, IsReplayDue, GivesJournal, no_journal}
use Rattle.nomos_words.specs.Options.{usual_limit}
use Rattle.nomos_answers.specs.RunsDue as runs
use Rattle.nomos_answers.specs.Sources.{IsJournalDueFor, IsReplayDueFor, IsRunDueFor, IsRunPartFor}
use Rattle.nomos_answers.specs.declared.due.Due.{Due}
use Rattle.nomos_answers.proofs.SourceLemmas.{some_text, told-same}

-- ---- scripts

-- what is due where there is no script
pub bare-of : (script : Input) (limit status : ℕ) (text : List ℕ) (due : Due) → IsNoScript script status text
    → IsBare due status text limit → IsBareOf script limit due
bare-of script limit status text due is bare = record {
  is = rw (bare.status_is, bare.text_is) is;
  nothing_kept = bare.nothing_kept;
  nothing_run = bare.nothing_run;
}

-- a script that reads is missing for a fault of its source alone
missing-fault : (script : Input) (items : List ScriptItem) (status : ℕ) (text : List ℕ) → ReadsAs script.text items
    → IsNoScript script status text → status ≡ 5
missing-fault script items status text reads (fault rose) = refl
missing-fault script items status text reads (too_long over) = absurd (omega (arith, over, reads.limit))
missing-fault script items status text reads (syntax k bad) =
    absurd (reads_without_syntax script.text k items reads bad)

-- ---- runs

-- a run of a script that reads
pub due-run : (a : Acceptance) (orders : Orders) (script : SourceState) (text : List ℕ) (items : List ScriptItem)
    (due : Due) → HasText script.left text → ReadsAs text items → HasRunAs a items orders due
    → IsRunDueFor a orders script due
due-run a orders script text items due told reads run = record {
  text = text;
  told = told;
  is =
      rw (run.status_is, run.text_is, run.kept_is)
      (runs.ran items due.journal run.passages run.last reads run.run run.stands);
}

pub part-run : (a : Acceptance) (orders : Orders) (script : SourceState) (text : List ℕ) (items : List ScriptItem)
    (journal : Journal) → HasText script.left text → ReadsAs text items → HasRunPart a items orders journal
    → IsRunPartFor a orders script journal
part-run a orders script text items journal told reads part = record {
  text = text;
  told = told;
  is = runs.ran_part items part.count journal part.passages part.last reads part.run;
}

-- no script to run
pub due-no_script : (a : Acceptance) (orders : Orders) (script : SourceState) (text : List ℕ) (due : Due)
    → HasText script.left text → IsBareOf (input_of script text) orders.limit due → IsRunDueFor a orders script due
due-no_script a orders script text due told bare = record {
  text = text;
  told = told;
  is = rw (bare.nothing_kept, bare.nothing_run) (runs.no_script due.status due.out.items bare.is);
}

pub part-none : (a : Acceptance) (orders : Orders) (script : SourceState) (journal : Journal)
    → journal ≡ no_entries orders.limit → IsRunPartFor a orders script journal
part-none a orders script journal none =
    let t = some_text script.left in record { text = t.0; told = t.1; is = rw none runs.not_run }

-- ---- journals

-- what is answered of a text that is refused
answered : (a : Acceptance) (items : List ScriptItem) (text : List ℕ) (why : ReplayError) → why ≢ error.NoMemory
    → IsRefusedSo a items text why → Answers a items text (Err why)
answered a items text error.NoMemory known so = absurd (known refl)
answered a items text error.TooLong known so = so
answered a items text (error.BadLine at) known so = so
answered a items text (error.NotEnabled at pid) known so = so
answered a items text (error.WrongFiring at pid) known so = so
answered a items text (error.WrongEnd at kept found) known so = so

-- a journal that is refused
pub due-refused : (a : Acceptance) (items : List ScriptItem) (journal : SourceState) (text : List ℕ) (why : ReplayError)
    (r : Result Due Journal) → HasText journal.left text → IsRefusedSo a items text why
    → IfOk r (λ due. IsBare due 9 (refusal_line a.annotations.unit why) usual_limit)
    → IfOk r (λ _. why ≢ error.NoMemory) → IfOk r (IsJournalDueFor a items journal)
due-refused a items journal text why (Ok due) told so bare known = record {
  text = text;
  told = told;
  is =
      rw (bare.status_is, bare.text_is, bare.nothing_run)
      (replays.refused why (answered a items text why known so));
  nothing_kept = bare.nothing_kept;
}
due-refused a items journal text why (Err e) told so bare known = tt

-- a journal whose source failed
pub due-fault : (a : Acceptance) (items : List ScriptItem) (journal : SourceState) (text line : List ℕ) (due : Due)
    → IsJournalDue a items (input_of journal text) 5 line no_journal → HasText journal.left text
    → IsBare due 5 line usual_limit → IsJournalDueFor a items journal due
due-fault a items journal text line due is told bare = record {
  text = text;
  told = told;
  is = rw (bare.status_is, bare.text_is, bare.nothing_run) is;
  nothing_kept = bare.nothing_kept;
}

-- a journal that was replayed
pub due-replayed : (a : Acceptance) (items : List ScriptItem) (bytes : List ℕ) (counts : FaultCounts) (due : Due)
    (kept : Journal) (last : LedgerState) (report : Vec ℕ Global)
    → HasReplayed a items bytes kept last report.items → StandsFor a last
    → due.status ≡ run_status kept.entries → due.out ≡ report → due.kept ≡ None → due.journal ≡ kept
    → IsJournalDueFor a items (record { left = Some bytes; counts = counts }) due
due-replayed a items bytes counts due kept last report has stands status out none journal = record {
  text = bytes;
  told = refl;
  is = rw (status, out, journal) (replays.replayed kept last report.items has stands);
  nothing_kept = rw none refl;
}

-- what is due of the bytes that were read is due of their source
pub due-read : (a : Acceptance) (items : List ScriptItem) (bytes : List ℕ) (journal : SourceState) (due : Due)
    → HasText journal.left bytes
    → IsJournalDueFor a items (record { left = Some bytes; counts = journal.counts }) due
    → IsJournalDueFor a items journal due
due-read a items bytes journal due told is =
    let same : is.text ≡ bytes = is.told in
    record {
      text = bytes;
      told = told;
      is = rw same at is.is;
      nothing_kept = is.nothing_kept;
    }

-- the text of a legal journal is short enough to be read
pub text-within : {a : Acceptance} → IsAccepted a → {items : List ScriptItem} → IsScriptSize items → AreWritten items
    → (v : Version) (journal : Journal) (text : List ℕ) → IsTextOf v a items journal text → length text ≤ max_bytes
text-within accepted size written v journal text is =
    let forms = journal-form accepted v size written is.tells in
    rw is.lines (journal-within accepted v size written is.tells forms)

-- ---- replays

-- a script that reads, and what is due of the journal
pub replay-answered : (a : Acceptance) (script journal : SourceState) (text : List ℕ) (items : List ScriptItem)
    (due : Due) → HasText script.left text → ReadsAs text items → IsJournalDueFor a items journal due
    → IsReplayDueFor a script journal due
replay-answered a script journal text items due told reads is = record {
  script_text = text;
  text = is.text;
  script_told = told;
  told = is.told;
  is = replays.answered items due.status due.out.items due.journal reads is.is;
  nothing_kept = is.nothing_kept;
}

-- no script
pub replay-no_script : (a : Acceptance) (script journal : SourceState) (text : List ℕ) (due : Due)
    → HasText script.left text → IsBareOf (input_of script text) usual_limit due → IsReplayDueFor a script journal due
replay-no_script a script journal text due told bare =
    let t = some_text journal.left in
    record {
      script_text = text;
      text = t.0;
      script_told = told;
      told = t.1;
      is = rw bare.nothing_run (replays.no_script due.status due.out.items bare.is);
      nothing_kept = bare.nothing_kept;
    }

-- where the script reads, a source failed
pub no_script-fault : (script : SourceState) (text told : List ℕ) (items : List ScriptItem) (kept : Journal) (due : Due)
    → HasText script.left told → script.left ≡ Some text → ReadsAs text items
    → IsBareOf (input_of script told) usual_limit due → GivesJournal kept due.status due.journal
no_script-fault script text told items kept due has e reads bare =
    let same = told-same script.left text told has e in
    inl (missing-fault (input_of script told) items due.status due.out.items (rw same reads) bare.is)

-- the items of a script are those that its text reads as
pub same-items : (left : Option (List ℕ)) (text told : List ℕ) (items script : List ScriptItem) → HasText left told
    → left ≡ Some text → ReadsAs text items → ReadsAs told script → items ≡ script
same-items left text told items script has e reads is =
    let same : told ≡ text = told-same left text told has e in reads_once text items script reads (rw same at is)
