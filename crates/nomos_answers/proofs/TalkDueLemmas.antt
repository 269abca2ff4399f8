-- What is due where a party talks, from its parts.
use Rattle.std.proofs.Common.{◌≡◌, ◌≢◌, ◌∙◌, ◌+◌, ◌≤◌, ℕ, List, [], None, Result, refl, sym, subst, arith}
use Rattle.std.specs.Prelude.{IfErr, IfOk}
use Rattle.std.proofs.lemmas.List.Elements.{All-nil}
use Rattle.nomos_ir.specs.Limits.{text_limit}
use Rattle.nomos_types.specs.Acceptance.{Acceptance, IsAccepted}
use Rattle.nomos_script.specs.ScriptReading.{ReadsAs}
use Rattle.nomos_script.specs.Size.{IsScriptSize}
use Rattle.nomos_script.specs.TalkReading.{ReadsAsTalk}
use Rattle.nomos_script.specs.declared.item.ScriptItem.{ScriptItem}
use Rattle.nomos_script.specs.declared.talk_line.TalkLine.{TalkLine}
use Rattle.nomos_script.specs.declared.talk_parsing.TalkError.TheVariants as talk_error
use Rattle.nomos_legal.specs.Ledger.{LedgerState, empty_ledger}
use Rattle.nomos_legal.specs.Legal.{PassesBy}
use Rattle.nomos_legal.specs.Passage.{Passage}
use Rattle.nomos_legal.specs.declared.journal.Journal.{Journal}
use Rattle.nomos_legal.proofs.LegalLaws.{tells-none}
use Rattle.nomos_report.specs.Reported.{report_of}
use Rattle.nomos_run.specs.declared.orders.ScriptRun.{ScriptRun}
use Rattle.nomos_run.specs.declared.orders.WholeRun.{WholeRun}
use Rattle.nomos_visit.specs.TalkHeld.{HasToldIn, LeavesNumbers}
use Rattle.nomos_visit.specs.declared.held.ToldTalk.{ToldTalk}
use Rattle.nomos_words.specs.Options.{usual_limit}
use Rattle.nomos_answers.specs.Finding.{HasNoTalk, HasRunPart, IsBare, IsBareOf, IsNoTalkOf, TalksIn, TalksOf, TalksWhole, talked, untold}
use Rattle.nomos_answers.specs.DueLines.{no_entries}
use Rattle.nomos_answers.specs.Outside.{HasText, Input, SourceState, input_of}
use Rattle.nomos_answers.specs.RunsDue.{usual_orders}
use Rattle.nomos_answers.specs.Sources.{IsTalkDueFor, kept_text}
use Rattle.nomos_answers.specs.TalkDue as talks
use Rattle.nomos_answers.specs.TalkDue.{IsNoTalk, talk_status}
use Rattle.nomos_answers.specs.declared.due.Due.{Due}
use Rattle.nomos_answers.specs.declared.talks.NoTalk.{NoTalk}
use Rattle.nomos_answers.specs.declared.talks.NoTalk.TheVariants as no_talk
use Rattle.nomos_answers.proofs.SourceLemmas.{if_err-map, if_ok-map, some_text}
use Rattle.nomos_answers.proofs.TalkRoomLemmas.{talk-room}
use Rattle.nomos_answers.proofs.WholeLemmas.{HasRunWhole}

-- a script that reads, with what is found of the talk
pub due-talk : (a : Acceptance) (name proc : List ℕ) (script talk : SourceState) (script_text : List ℕ)
    (items : List ScriptItem) (due : Due) → HasText script.left script_text → ReadsAs script_text items
    → TalksIn a name proc items talk due → IsTalkDueFor a name proc script talk due
due-talk a name proc script talk script_text items due has reads (talked text lines told says made) =
    let w = made.whole in
    record {
      script_text = script_text;
      text = text;
      script_told = has;
      told = told;
      is =
          rw (w.status_is, w.text_is, w.journal_is)
          (talks.talked items lines made.journal made.passages made.last w.fine w.replies reads says made.run
          made.stands w.holds);
      nothing_kept = w.nothing_kept;
    }
due-talk a name proc script talk script_text items due has reads (untold text why told none is) = record {
  script_text = script_text;
  text = text;
  script_told = has;
  told = told;
  is =
      rw is.nothing_run
      (talks.no_talk items due.status due.out.items reads (is.is (input_of talk text) none));
  nothing_kept = is.nothing_kept;
}

-- no script
pub talk-no_script : (a : Acceptance) (name proc : List ℕ) (script talk : SourceState) (text : List ℕ) (due : Due)
    → HasText script.left text → IsBareOf (input_of script text) usual_limit due
    → IsTalkDueFor a name proc script talk due
talk-no_script a name proc script talk text due told bare =
    let t = some_text talk.left in
    record {
      script_text = text;
      text = t.0;
      script_told = told;
      told = t.1;
      is = rw bare.nothing_run (talks.no_script due.status due.out.items bare.is);
      nothing_kept = bare.nothing_kept;
    }

-- ---- a talk behind a whole run

-- what is due of a whole run
pub whole-talks : {M : Type 0} {a : Acceptance} {name proc : List ℕ} {lines : List (ℕ × TalkLine)}
    {items : List ScriptItem} {made : ScriptRun M} {whole : WholeRun M}
    → HasRunWhole a empty_ledger items usual_orders made whole → (due : Due)
    → TalksWhole a name proc lines made.journal whole.report.items whole.ledger due
    → TalksOf a name proc lines items due
whole-talks {a = a} {name} {proc} {lines} {made = made} {whole} is due talks = record {
  journal = made.journal;
  passages = is.passages;
  last = is.last;
  run = is.run;
  stands = is.stands;
  whole =
      subst (λ (l : LedgerState). TalksWhole a name proc lines made.journal (report_of a is.passages) l due)
      is.ledger_is
      (subst (λ (text : List ℕ). TalksWhole a name proc lines made.journal text whole.ledger due) is.report_is talks);
}

-- behind it there are numbers left
pub whole-room : {M : Type 0} {a : Acceptance} {items : List ScriptItem} {made : ScriptRun M} {whole : WholeRun M}
    → IsAccepted a → HasRunWhole a empty_ledger items usual_orders made whole → IsScriptSize items → (lines : ℕ)
    → lines ≤ text_limit → LeavesNumbers whole.ledger.state (usual_limit + 1 + lines)
whole-room accepted is size lines few =
    subst (λ (l : LedgerState). LeavesNumbers l.state (usual_limit + 1 + lines)) (sym is.ledger_is)
    (talk-room accepted is.run.tells size lines few)

-- ---- the text of a talk

-- what is due where there is none, for this cause
pub no-talk : (why cause : NoTalk) (r : Result Due Journal) (status : ℕ) (line : List ℕ) → why ≡ cause
    → cause ≢ no_talk.Refused talk_error.NoMemory
    → ((text : Input) → IsNoTalkOf text cause → IsNoTalk text status line)
    → IfOk r (λ due. IsBare due status line usual_limit) → IfOk r (HasNoTalk why)
no-talk why cause r status line so known is bare =
    if_ok-map r (λ due. IsBare due status line usual_limit) (HasNoTalk why)
    (λ due b. subst (λ (w : NoTalk). HasNoTalk w due) (sym so) (record {
      known = known;
      is = λ text none. rw (b.status_is, b.text_is) (is text none);
      nothing_kept = b.nothing_kept;
      nothing_run = b.nothing_run;
    })) bare

-- what is due of a talk that reads
pub talks-in : (a : Acceptance) (name proc : List ℕ) (items : List ScriptItem) (talk : SourceState) (text : List ℕ)
    (lines : List (ℕ × TalkLine)) (r : Result Due Journal) → HasText talk.left text → ReadsAsTalk text lines
    → IfOk r (TalksOf a name proc lines items) → IfOk r (TalksIn a name proc items talk)
talks-in a name proc items talk text lines r told reads talks =
    if_ok-map r (TalksOf a name proc lines items) (TalksIn a name proc items talk)
    (λ due is. talked text lines told reads is) talks

pub talks-none : (a : Acceptance) (name proc : List ℕ) (items : List ScriptItem) (talk : SourceState) (text : List ℕ)
    (why : NoTalk) (r : Result Due Journal) → HasText talk.left text → IsNoTalkOf (input_of talk text) why
    → IfOk r (HasNoTalk why) → IfOk r (TalksIn a name proc items talk)
talks-none a name proc items talk text why r told none due =
    if_ok-map r (HasNoTalk why) (TalksIn a name proc items talk) (λ d is. untold text why told none is) due

-- where nothing has run, the journal is one of no items
pub part-untold : (a : Acceptance) (items : List ScriptItem) (r : Result Due Journal)
    → IfErr r (λ journal. journal ≡ no_entries usual_limit) → IfErr r (HasRunPart a items usual_orders)
part-untold a items r none =
    if_err-map r (λ journal. journal ≡ no_entries usual_limit) (HasRunPart a items usual_orders)
    (λ journal is. record {
      count = 0;
      passages = [];
      last = empty_ledger;
      run = record {
        limit = rw is refl;
        tells = rw is (tells-none a usual_limit (record { some = omega arith; few = omega arith }));
        follows = λ policy one. All-nil (λ (p : Passage). PassesBy policy a p p.entry);
      };
    }) none
