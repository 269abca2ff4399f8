-- What is due where a ledger is saved, or a script run from one, from its parts.
use Rattle.std.proofs.Common.{◌≡◌, ◌≢◌, ◌^◌, ◌<◌, ℕ, List, length, Result, Ok, Err, ap, arith}
use Rattle.std.specs.Prelude.{IfErr, IfOk}
use Rattle.nomos_types.specs.Acceptance.{Acceptance}
use Rattle.nomos_script.specs.ScriptReading.{ReadsAs}
use Rattle.nomos_script.specs.declared.item.ScriptItem.{ScriptItem}
use Rattle.nomos_legal.specs.Ledger.{LedgerState}
use Rattle.nomos_legal.specs.StandsFor.{StandsFor}
use Rattle.nomos_legal.specs.declared.journal.Journal.{Journal}
use Rattle.nomos_report.specs.Reported.{report_of}
use Rattle.nomos_snapshot.specs.Loading.{Loads}
use Rattle.nomos_snapshot.specs.Saving.{HasLowNumbers, Saves}
use Rattle.nomos_snapshot.specs.declared.error.LoadError.{LoadError}
use Rattle.nomos_snapshot.specs.declared.error.LoadError.TheVariants as load_error
use Rattle.nomos_snapshot.specs.declared.error.SaveError.{SaveError}
use Rattle.nomos_snapshot.specs.declared.error.SaveError.TheVariants as save_error
use Rattle.nomos_words.specs.Options.{usual_limit}
use Rattle.nomos_answers.specs.Finding.{HasNoLedger, IsBare, IsBareOf, IsLineOfNoLedger, IsNoLedgerOf, MayGoOn, ResumesIn, ResumesInPart, RunsFrom, RunsFromPart, SavesIn, SavesWhole, not_ran, not_read, ran, ran_part, saved, unsaved}
use Rattle.nomos_answers.specs.DueLines.{no_entries}
use Rattle.nomos_answers.specs.Outside.{HasText, SourceState, input_of}
use Rattle.nomos_answers.specs.Resumes as resumes
use Rattle.nomos_answers.specs.Saves as saves
use Rattle.nomos_answers.specs.SnapshotLines.{unsaved_line}
use Rattle.nomos_answers.specs.Sources.{IsResumeDueFor, IsResumePartFor, IsSaveDueFor, kept_text}
use Rattle.nomos_answers.specs.declared.due.Due.{Due}
use Rattle.nomos_answers.specs.declared.resumes.NoLedger.{NoLedger}
use Rattle.nomos_answers.specs.declared.resumes.NoLedger.TheVariants as no_ledger
use Rattle.nomos_answers.proofs.SourceLemmas.{if_err-map, if_ok-map, some_text}

-- ---- a ledger that is to be saved

pub due-save : (a : Acceptance) (script : SourceState) (text : List ℕ) (items : List ScriptItem) (due : Due)
    → HasText script.left text → ReadsAs text items → SavesIn a items due → IsSaveDueFor a script due
due-save a script text items due told reads made = record { text = text; told = told; is = by made.whole }
  where
    by : SavesWhole a made.journal (report_of a made.passages) made.last due
        → saves.IsSaveDue a (input_of script text) due.status due.out.items (kept_text due) due.journal
    by (saved snapshot written loads status out kept journal) =
        rw (status, out, kept, journal)
        (saves.saved items made.journal made.passages made.last snapshot reads made.run made.stands written loads)
    by (unsaved why never bare) =
        rw (bare.status_is, bare.text_is, bare.nothing_kept, bare.nothing_run)
        (saves.unsaved items made.journal made.passages made.last why reads made.run made.stands never)

-- a whole run whose ledger is not saved
pub save-refused : (a : Acceptance) (journal : Journal) (report : List ℕ) (last : LedgerState) (why : SaveError)
    (r : Result Due Journal) → (why ≢ save_error.NoMemory → Saves a last (Err why))
    → IfOk r (λ due. IsBare due 11 (unsaved_line why) usual_limit) → IfOk r (λ _. why ≢ save_error.NoMemory)
    → IfOk r (SavesWhole a journal report last)
save-refused a journal report last why (Ok due) never bare known = unsaved why (never known) bare
save-refused a journal report last why (Err e) never bare known = tt

pub save-no_script : (a : Acceptance) (script : SourceState) (text : List ℕ) (due : Due) → HasText script.left text
    → IsBareOf (input_of script text) usual_limit due → IsSaveDueFor a script due
save-no_script a script text due told bare = record {
  text = text;
  told = told;
  is = rw (bare.nothing_kept, bare.nothing_run) (saves.no_script due.status due.out.items bare.is);
}

-- ---- a run from a ledger

pub due-resume : (a : Acceptance) (snapshot script : SourceState) (text : List ℕ) (first : LedgerState) (due : Due)
    → HasText snapshot.left text → Loads a text (Ok first) → ResumesIn a first script due
    → IsResumeDueFor a snapshot script due
due-resume a snapshot script text first due told loads (ran script_text items has reads run) = record {
  text = text;
  script_text = script_text;
  told = told;
  script_told = has;
  is =
      rw (run.status_is, run.text_is)
      (resumes.ran first items due.journal run.passages run.last loads reads run.run run.stands);
  nothing_kept = run.nothing_kept;
}
due-resume a snapshot script text first due told loads (not_read script_text has bare) = record {
  text = text;
  script_text = script_text;
  told = told;
  script_told = has;
  is = rw bare.nothing_run (resumes.no_script first due.status due.out.items loads bare.is);
  nothing_kept = bare.nothing_kept;
}

pub part-resume : (a : Acceptance) (snapshot script : SourceState) (text : List ℕ) (first : LedgerState)
    (journal : Journal) → HasText snapshot.left text → Loads a text (Ok first) → ResumesInPart a first script journal
    → IsResumePartFor a snapshot script journal
part-resume a snapshot script text first journal told loads (ran_part script_text items has reads run) = record {
  text = text;
  script_text = script_text;
  told = told;
  script_told = has;
  is = resumes.ran_part first items run.count journal run.passages run.last loads reads run.run;
}
part-resume a snapshot script text first journal told loads (not_ran none) =
    let t = some_text script.left in
    record {
      text = text;
      script_text = t.0;
      told = told;
      script_told = t.1;
      is = rw none resumes.not_run;
    }

-- a text that is not loaded
resume-unloaded : (a : Acceptance) (snapshot script : SourceState) (text : List ℕ) (why : LoadError) (due : Due)
    → HasText snapshot.left text → Loads a text (Err why) → HasNoLedger (no_ledger.Refused why) due
    → IsResumeDueFor a snapshot script due
resume-unloaded a snapshot script text why due told loads none =
    let t = some_text script.left in
    record {
      text = text;
      script_text = t.0;
      told = told;
      script_told = t.1;
      is =
          rw (none.line.status_is, none.line.text_is, none.line.nothing_run)
          (resumes.no_ledger 11 _ (resumes.refused why loads));
      nothing_kept = none.line.nothing_kept;
    }

-- no ledger to begin at
pub resume-no_ledger : (a : Acceptance) (snapshot script : SourceState) (text : List ℕ) (why : NoLedger) (due : Due)
    → HasText snapshot.left text → IsNoLedgerOf a (input_of snapshot text) why → HasNoLedger why due
    → IsResumeDueFor a snapshot script due
resume-no_ledger a snapshot script text no_ledger.ReadFault due told rose none =
    let t = some_text script.left in
    record {
      text = text;
      script_text = t.0;
      told = told;
      script_told = t.1;
      is =
          rw (none.line.status_is, none.line.text_is, none.line.nothing_run)
          (resumes.no_ledger 5 _ (resumes.fault rose));
      nothing_kept = none.line.nothing_kept;
    }
resume-no_ledger a snapshot script text (no_ledger.Refused why) due told is none =
    resume-unloaded a snapshot script text why due told (is (λ e. none.known (ap no_ledger.Refused e))) none

pub part-no_ledger : (a : Acceptance) (snapshot script : SourceState) (journal : Journal)
    → journal ≡ no_entries usual_limit → IsResumePartFor a snapshot script journal
part-no_ledger a snapshot script journal none =
    let s = some_text snapshot.left in
    let t = some_text script.left in
    record { text = s.0; script_text = t.0; told = s.1; script_told = t.1; is = rw none resumes.not_run }

-- ---- a ledger that is loaded

pub may-go-on : {a : Acceptance} {l : LedgerState} → StandsFor a l
    → HasLowNumbers l.state × (length l.accounts < 2 ^ 31) → MayGoOn a l
may-go-on stands low = record {
  stands = stands;
  numbers = record { objects = omega (arith, low.0.objects); names = omega (arith, low.0.names) };
  accounts = low.1;
}

-- ---- a script that is run from a ledger

pub resumes-run : (a : Acceptance) (first : LedgerState) (script : SourceState) (text : List ℕ)
    (items : List ScriptItem) (r : Result Due Journal) → HasText script.left text → ReadsAs text items
    → IfOk r (RunsFrom a first items) → IfOk r (ResumesIn a first script)
resumes-run a first script text items r told reads runs =
    if_ok-map r (RunsFrom a first items) (ResumesIn a first script) (λ due is. ran text items told reads is) runs

pub resumes-part : (a : Acceptance) (first : LedgerState) (script : SourceState) (text : List ℕ)
    (items : List ScriptItem) (r : Result Due Journal) → HasText script.left text → ReadsAs text items
    → IfErr r (RunsFromPart a first items) → IfErr r (ResumesInPart a first script)
resumes-part a first script text items r told reads runs =
    if_err-map r (RunsFromPart a first items) (ResumesInPart a first script)
    (λ journal is. ran_part text items told reads is) runs
