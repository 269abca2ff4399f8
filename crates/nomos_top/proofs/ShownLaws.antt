-- What is due is written, and nothing else.
use Rattle.std.proofs.Common.{◌≡◌, ◌≢◌, ◌∙◌, ◌⊎◌, inl, inr, ℕ, List, Option, Some, None, refl, sym, subst, ap, arith}
use Rattle.nomos_answers.specs.Outside.{HaveRisen}
use Rattle.nomos_answers.specs.Written.{with_text}
use Rattle.nomos_least.specs.LeastBounds.{IsLeastAs}
use Rattle.nomos_least.specs.declared.least.LeastBounds.{LeastBounds}
use Rattle.nomos_legal.specs.Ledger.{LedgerState}
use Rattle.nomos_legal.specs.Passage.{Passage}
use Rattle.nomos_report.specs.Block.{accepted_block}
use Rattle.nomos_walk.specs.Wanted.{journal_text_of}
use Rattle.nomos_top.specs.Call.{EndsOn, IsDueOf, inputs_of, outcome_with}
use Rattle.nomos_top.specs.Seen.{Call, Texts, Gives, HasKept, HasWritten, IsDone}
use Rattle.nomos_top.specs.Kept.{CarriesOut}
use Rattle.nomos_top.specs.LeastBlock.{least_block}
use Rattle.nomos_top.specs.Outcome.{Inputs, Outcome}
use Rattle.nomos_top.specs.Shown as shown
use Rattle.nomos_top.specs.Shown.{FailsTruly, HasKeptNothing, IsCutOff, IsFault, WritesWhatIsDue, told_of}
use Rattle.nomos_top.specs.Tasks.{IsAlone, Keeps, KeepsJournal, ReadsTalk}
use Rattle.nomos_top.proofs.AcceptedLaws.{task-view}
use Rattle.nomos_top.proofs.EndLaws.{further-not_seven, further-not_six, whole-at, whole-done}
use Rattle.nomos_top.proofs.KeptLaws.{done-carried, seen-as}
use Rattle.nomos_top.proofs.StatusLaws.{done-not}
use Rattle.nomos_top.proofs.Views.{Carried, DueView, Failed, Further, Missed, WordsView, WrittenView, Whole, EndView, end-view}
use Rattle.nomos_top.proofs.Views as view
use Rattle.nomos_types.specs.Acceptance.{Acceptance, IsAccepted}
use Rattle.nomos_words.specs.Words.{Task, check, least, Asks}

-- ---- of a contract alone

-- a task that is another than this one has another file, or is another thing
check-not_least : (f g : List ℕ) → check f ≡ least g → ⊥
check-not_least f g same = absurd cc

check-shown : (c : Call) (t : Texts) (out : List ℕ) (kept : Option (List ℕ)) (file : List ℕ) → c.status ≡ 0
    → HasWritten c out → DueView (inputs_of c t) (check file) (outcome_with c c.status out kept)
    → (a : Acceptance) × Gives c a × HasWritten c (accepted_block a)
check-shown c t out kept file zero wrote (view.against (view.fault reads rose n is) idle none) =
    absurd (omega (arith, n, zero))
check-shown c t out kept file zero wrote (view.against (view.refused why h n is) idle none) =
    absurd (omega (arith, n, zero))
check-shown c t out kept file zero wrote (view.against (view.unsolved stop h n is) idle none) =
    absurd (omega (arith, n, zero))
check-shown c t out kept file zero wrote (view.alone a (view.checked f same is) alone gives h idle n) =
    (a, gives, subst (HasWritten c) is wrote)
check-shown c t out kept file zero wrote (view.alone a (view.bounded f b same is_a h is) alone gives g idle n) =
    absurd (check-not_least file f same)
check-shown c t out kept file zero wrote (view.behind a what further gives is) = absurd (further tt)

least-shown : (c : Call) (t : Texts) (out : List ℕ) (kept : Option (List ℕ)) (file : List ℕ) → c.status ≡ 0
    → HasWritten c out → DueView (inputs_of c t) (least file) (outcome_with c c.status out kept)
    → (b : LeastBounds) × Gives c b.accepted × IsLeastAs t.contract b × HasWritten c (least_block b)
least-shown c t out kept file zero wrote (view.against (view.fault reads rose n is) idle none) =
    absurd (omega (arith, n, zero))
least-shown c t out kept file zero wrote (view.against (view.refused why h n is) idle none) =
    absurd (omega (arith, n, zero))
least-shown c t out kept file zero wrote (view.against (view.unsolved stop h n is) idle none) =
    absurd (omega (arith, n, zero))
least-shown c t out kept file zero wrote (view.alone a (view.checked f same is) alone gives h idle n) =
    absurd (check-not_least f file (sym same))
least-shown c t out kept file zero wrote (view.alone a (view.bounded f b same is_a h is) alone gives g idle n) =
    (b, subst (Gives c) (sym is_a) gives, h, subst (HasWritten c) is wrote)
least-shown c t out kept file zero wrote (view.behind a what further gives is) = absurd (further tt)

-- ---- of a script

-- what is due of a run that is seen, where all was written
record ShownAs (c : Call) (t : Texts) (out : List ℕ) (kept : Option (List ℕ)) (run : CarriesOut c t) : Type 0 where
  told : ¬ (ReadsTalk run.task) → out ≡ told_of run.task run.a c.journal run.passages run.last
  keeps : KeepsJournal run.task → kept ≡ Some (journal_text_of run.a c.journal.limit run.passages)

shown-as : (c : Call) (t : Texts) (task : Task) (status : ℕ) (out : List ℕ) (kept : Option (List ℕ)) (a : Acceptance)
    → IsAccepted a → Gives c a → Asks c.words task
    → (r : Carried (inputs_of c t) task (outcome_with c status out kept) a) (run : CarriesOut c t)
    → ShownAs c t out kept run
shown-as c t task status out kept a accepted gives asks r run =
    let seen = seen-as c t task status out kept a accepted gives asks r run in
    record {
      told = λ quiet.
          r.out (λ reads. quiet (subst ReadsTalk (sym seen.tasks) reads))
          ∙ ap (λ (x : Task). told_of x a c.journal r.passages r.last) (sym seen.tasks)
          ∙ ap (λ (x : Acceptance). told_of run.task x c.journal r.passages r.last) seen.programs
          ∙ ap (λ (ps : List Passage). told_of run.task run.a c.journal ps r.last) seen.passages
          ∙ ap (λ (l : LedgerState). told_of run.task run.a c.journal run.passages l) seen.last;
      keeps = λ keeps.
          r.keeps (subst KeepsJournal seen.tasks keeps)
          ∙ ap (λ (x : Acceptance). Some (journal_text_of x c.journal.limit r.passages)) seen.programs
          ∙ ap (λ (ps : List Passage). Some (journal_text_of run.a c.journal.limit ps)) seen.passages;
    }

-- where all was written with 0 or 3, a run that is seen is what was carried out
whole-shown : (c : Call) (t : Texts) → EndsOn c t → (w : Whole c t) → IsDone c.status → (run : CarriesOut c t)
    → ShownAs c t w.out w.kept run
whole-shown c t e w done run =
    either (done-carried c t w.out w.kept run.task done (task-view w.view run.task run.asks))
  where
    either : IsAlone run.task
        ⊎ ((a : Acceptance) × Gives c a × Carried (inputs_of c t) run.task (outcome_with c c.status w.out w.kept) a)
        → ShownAs c t w.out w.kept run
    either (inl alone) = absurd (run.scripted alone)
    either (inr (a, gives, r)) =
        shown-as c t run.task c.status w.out w.kept a (e.fits a gives) gives run.asks r run

pub kept-text : (c : Call) (kept : Option (List ℕ)) (text : List ℕ)
    → c.journal_out.after ≡ with_text c.journal_out.before kept → kept ≡ Some text → HasKept c text
kept-text c kept text keeps is =
    subst (λ (k : Option (List ℕ)). c.journal_out.after ≡ with_text c.journal_out.before k) is keeps

kept-nothing : (c : Call) (kept : Option (List ℕ)) → c.journal_out.after ≡ with_text c.journal_out.before kept
    → kept ≡ None → HasKeptNothing c
kept-nothing c kept keeps is =
    subst (λ (k : Option (List ℕ)). c.journal_out.after ≡ with_text c.journal_out.before k) is keeps

-- ---- what is not kept

-- what is due keeps no text where the words do not ask for it
due-drops : {i : Inputs} {task : Task} {o : Outcome} → DueView i task o → ¬ (Keeps task) → o.kept ≡ None
due-drops (view.against why idle none) drops = idle.kept
due-drops (view.alone a what alone gives is idle n) drops = idle.kept
due-drops (view.behind a (view.missed status line is idle same out) further gives h) drops = idle.kept
due-drops (view.behind a (view.carried r) further gives h) drops = r.drops drops

written-nothing : (c : Call) (status : ℕ) (out : List ℕ) (kept : Option (List ℕ))
    → WrittenView status out kept c.out c.journal_out c.status → kept ≡ None → HasKeptNothing c
written-nothing c status out kept (view.whole same wrote keeps) none = kept-nothing c kept keeps none
written-nothing c status out kept (view.out_failed six rose some nothing) none = nothing
written-nothing c status out kept (view.journal_failed text six is wrote rose some) none =
    absurd (let both : None ≡ Some text = sym none ∙ is in cc)

end-drops : (c : Call) (t : Texts) → EndView c t → (task : Task) → Asks c.words task → ¬ (Keeps task)
    → HasKeptNothing c
end-drops c t (view.all w) task asks drops =
    kept-nothing c w.kept w.keeps (due-drops (task-view w.view task asks) drops)
end-drops c t (view.failed f) task asks drops =
    written-nothing c f.status f.out f.kept f.written (due-drops (task-view f.view task asks) drops)
end-drops c t (view.wanting m) task asks drops = m.journal_out

-- what is due keeps no text with another status than 0 and 3
words-undone : (c : Call) (t : Texts) (out : List ℕ) (kept : Option (List ℕ))
    → WordsView c.words (inputs_of c t) (outcome_with c c.status out kept) → ¬ (IsDone c.status) → kept ≡ None
words-undone c t out kept (view.nothing_asked none idle never four is) undone = idle.kept
words-undone c t out kept (view.task_asked task asks (view.against why idle none)) undone = idle.kept
words-undone c t out kept (view.task_asked task asks (view.alone a what alone gives is idle n)) undone = idle.kept
words-undone c t out kept
    (view.task_asked task asks (view.behind a (view.missed status line is idle same o) further gives h)) undone =
    idle.kept
words-undone c t out kept (view.task_asked task asks (view.behind a (view.carried r) further gives h)) undone =
    absurd (undone r.done)

end-undone : (c : Call) (t : Texts) → EndView c t → ¬ (IsDone c.status) → c.status ≢ 6 → HasKeptNothing c
end-undone c t (view.all w) undone six =
    kept-nothing c w.kept w.keeps (words-undone c t w.out w.kept w.view undone)
end-undone c t (view.failed f) undone six = absurd (six f.is)
end-undone c t (view.wanting m) undone six = m.journal_out

-- ---- failures

words-not_six : (c : Call) (t : Texts) (out : List ℕ) (kept : Option (List ℕ))
    → WordsView c.words (inputs_of c t) (outcome_with c c.status out kept) → c.status ≢ 6
words-not_six c t out kept (view.nothing_asked none idle never n is) six = omega (arith, n, six)
words-not_six c t out kept (view.task_asked task asks (view.against (view.fault reads rose n is) idle none)) six =
    omega (arith, n, six)
words-not_six c t out kept (view.task_asked task asks (view.against (view.refused why h n is) idle none)) six =
    omega (arith, n, six)
words-not_six c t out kept (view.task_asked task asks (view.against (view.unsolved stop h n is) idle none)) six =
    omega (arith, n, six)
words-not_six c t out kept (view.task_asked task asks (view.alone a what alone gives is idle n)) six =
    omega (arith, n, six)
words-not_six c t out kept (view.task_asked task asks (view.behind a what further gives h)) six =
    further-not_six what six

words-not_seven : (c : Call) (t : Texts) (out : List ℕ) (kept : Option (List ℕ))
    → WordsView c.words (inputs_of c t) (outcome_with c c.status out kept) → c.status ≢ 7
words-not_seven c t out kept (view.nothing_asked none idle never n is) seven = omega (arith, n, seven)
words-not_seven c t out kept (view.task_asked task asks (view.against (view.fault reads rose n is) idle none)) seven =
    omega (arith, n, seven)
words-not_seven c t out kept (view.task_asked task asks (view.against (view.refused why h n is) idle none)) seven =
    omega (arith, n, seven)
words-not_seven c t out kept (view.task_asked task asks (view.against (view.unsolved stop h n is) idle none)) seven =
    omega (arith, n, seven)
words-not_seven c t out kept (view.task_asked task asks (view.alone a what alone gives is idle n)) seven =
    omega (arith, n, seven)
words-not_seven c t out kept (view.task_asked task asks (view.behind a what further gives h)) seven =
    further-not_seven what seven

failed-cut : (c : Call) (t : Texts) (f : Failed c t) (kept : Option (List ℕ)) → f.kept ≡ kept
    → WrittenView f.status f.out kept c.out c.journal_out c.status → IsCutOff c t
failed-cut c t f kept same (view.whole is wrote keeps) =
    absurd
    (words-not_six c t f.out f.kept
    (subst (λ (s : ℕ). WordsView c.words (inputs_of c t) (outcome_with c s f.out f.kept)) (sym is) f.view) f.is)
failed-cut c t f kept same (view.out_failed six rose some nothing) =
    shown.out_failed f.status f.out f.kept f.due rose some nothing
failed-cut c t f kept same (view.journal_failed text six is wrote rose some) =
    shown.journal_out_failed f.status f.out text
    (subst (λ (k : Option (List ℕ)). IsDueOf c (inputs_of c t) f.status f.out k) (same ∙ is) f.due) wrote rose some

end-cut : (c : Call) (t : Texts) → EndView c t → c.status ≡ 6 → IsCutOff c t
end-cut c t (view.all w) six = absurd (words-not_six c t w.out w.kept w.view six)
end-cut c t (view.failed f) six = failed-cut c t f f.kept refl f.written
end-cut c t (view.wanting m) six = absurd (let seven : c.status ≡ 7 = m.is in omega (arith, six, seven))

end-silent : (c : Call) (t : Texts) → EndView c t → c.status ≡ 7 → c.out.after ≡ c.out.before
end-silent c t (view.all w) seven = absurd (words-not_seven c t w.out w.kept w.view seven)
end-silent c t (view.failed f) seven = absurd (let six : c.status ≡ 6 = f.is in omega (arith, six, seven))
end-silent c t (view.wanting m) seven = m.out

pub writes-what_is_due : (c : Call) (t : Texts) → EndsOn c t → WritesWhatIsDue c t
writes-what_is_due c t e =
    let ends = end-view c t e in
    record {
      checked = λ file asks zero.
          let w = whole-at c t 0 ends zero (λ z. omega (arith, z)) (λ z. omega (arith, z)) in
          check-shown c t w.out w.kept file zero w.wrote (task-view w.view (check file) asks);
      bounded = λ file asks zero.
          let w = whole-at c t 0 ends zero (λ z. omega (arith, z)) (λ z. omega (arith, z)) in
          least-shown c t w.out w.kept file zero w.wrote (task-view w.view (least file) asks);
      told = λ run done quiet.
          let w = whole-done c t ends done in
          subst (HasWritten c) ((whole-shown c t e w done run).told quiet) w.wrote;
      kept = λ run done keeps.
          let w = whole-done c t ends done in
          kept-text c w.kept (journal_text_of run.a c.journal.limit run.passages) w.keeps
          ((whole-shown c t e w done run).keeps keeps);
      nothing_kept = λ task asks drops. end-drops c t ends task asks drops;
      nothing_due = λ undone six. end-undone c t ends undone six;
      cut_off = λ six. end-cut c t ends six;
      nothing_out = λ seven. end-silent c t ends seven;
    }

-- ---- and failures are true

missed-fault : (c : Call) (t : Texts) (task : Task) (a : Acceptance) (status : ℕ) (line : List ℕ)
    → Asks c.words task → HasWritten c line → status ≡ 5 → Missed (inputs_of c t) task a status line → IsFault c
missed-fault c t task a status line asks wrote five (view.script_fault reads rose) = shown.script rose wrote
missed-fault c t task a status line asks wrote five (view.third_fault reads rose) =
    shown.third task asks reads rose wrote
missed-fault c t task a status line asks wrote five (view.bad_script first l reads begins bad) =
    absurd (omega (arith, five))
missed-fault c t task a status line asks wrote five (view.no_pool threads items k reads has begins h bad) =
    absurd (omega (arith, five))
missed-fault c t task a status line asks wrote five (view.bad_journal items why reads h answers) =
    absurd (omega (arith, five))
missed-fault c t task a status line asks wrote five (view.bad_talk items l reads h bad) = absurd (omega (arith, five))
missed-fault c t task a status line asks wrote five (view.unloaded why reads loads) = absurd (omega (arith, five))
missed-fault c t task a status line asks wrote five (view.unsaved items journal ps last why keeps h run bad) =
    absurd (omega (arith, five))

further-fault : (c : Call) (t : Texts) (out : List ℕ) (kept : Option (List ℕ)) (task : Task) (a : Acceptance)
    → Asks c.words task → HasWritten c out → c.status ≡ 5
    → Further (inputs_of c t) task (outcome_with c c.status out kept) a → IsFault c
further-fault c t out kept task a asks wrote five (view.missed status line is idle same o) =
    missed-fault c t task a status line asks (subst (HasWritten c) o wrote) (sym same ∙ five) is
further-fault c t out kept task a asks wrote five (view.carried r) =
    absurd (done-not c.status 5 r.done (λ z. omega (arith, z)) (λ z. omega (arith, z)) five)

fault-told : (c : Call) (t : Texts) (out : List ℕ) (kept : Option (List ℕ)) → HasWritten c out → c.status ≡ 5
    → WordsView c.words (inputs_of c t) (outcome_with c c.status out kept) → IsFault c
fault-told c t out kept wrote five (view.nothing_asked none idle never n is) = absurd (omega (arith, n, five))
fault-told c t out kept wrote five
    (view.task_asked task asks (view.against (view.fault reads rose n is) idle none)) =
    shown.contract rose (subst (HasWritten c) is wrote)
fault-told c t out kept wrote five (view.task_asked task asks (view.against (view.refused why h n is) idle none)) =
    absurd (omega (arith, n, five))
fault-told c t out kept wrote five (view.task_asked task asks (view.against (view.unsolved stop h n is) idle none)) =
    absurd (omega (arith, n, five))
fault-told c t out kept wrote five (view.task_asked task asks (view.alone a what alone gives is idle n)) =
    absurd (omega (arith, n, five))
fault-told c t out kept wrote five (view.task_asked task asks (view.behind a what further gives h)) =
    further-fault c t out kept task a asks wrote five what

cut-risen : (c : Call) (t : Texts) → IsCutOff c t → HaveRisen c.out.counts ⊎ HaveRisen c.journal_out.counts
cut-risen c t (shown.out_failed status out kept due rose some nothing) = inl rose
cut-risen c t (shown.journal_out_failed status out text due wrote rose some) = inr rose

pub fails-truly : (c : Call) (t : Texts) → EndsOn c t → FailsTruly c t
fails-truly c t e =
    let ends = end-view c t e in
    record {
      read = λ five.
          let w = whole-at c t 5 ends five (λ z. omega (arith, z)) (λ z. omega (arith, z)) in
          fault-told c t w.out w.kept w.wrote five w.view;
      write = λ six. cut-risen c t (end-cut c t ends six);
    }
