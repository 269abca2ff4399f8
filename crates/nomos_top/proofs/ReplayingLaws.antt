-- Journals that are kept replay.
use Rattle.std.proofs.Common.{◌≡◌, ◌≢◌, ◌∙◌, ◌⊎◌, inl, inr, ℕ, List, [], ◌++◌, Option, Some, None, Err, refl, sym, subst, ap, append-nil}
use Rattle.std.proofs.lemmas.List.{append_cancel_left}
use Rattle.nomos_base.specs.Sink.{with_end}
use Rattle.nomos_answers.proofs.ReplayLaws.{legal-not_refused, legal-one}
use Rattle.nomos_answers.specs.Written.{with_text}
use Rattle.nomos_journal.specs.JournalText.{IsTextOf}
use Rattle.nomos_journal.specs.declared.line.Version.TheVariants as version
use Rattle.nomos_legal.proofs.UniqueLaws.{tells-one}
use Rattle.nomos_legal.specs.Ledger.{LedgerState}
use Rattle.nomos_legal.specs.Legal.{Tells, TellsFrom}
use Rattle.nomos_legal.specs.Passage.{Passage}
use Rattle.nomos_legal.specs.declared.journal.Journal.{Journal}
use Rattle.nomos_replay.specs.Answers.{Answers}
use Rattle.nomos_report.specs.Reported.{report_of, run_status}
use Rattle.nomos_walk.specs.Wanted.{journal_text_of}
use Rattle.nomos_script.proofs.ReadingLaws.{reads_once}
use Rattle.nomos_script.specs.ScriptReading.{ReadsAs}
use Rattle.nomos_script.specs.declared.item.ScriptItem.{ScriptItem}
use Rattle.nomos_top.specs.Call.{EndsOn, inputs_of, outcome_with}
use Rattle.nomos_top.specs.Seen.{Call, Texts, Gives, HasWritten, Fails}
use Rattle.nomos_top.specs.Headline.{CarriesBy}
use Rattle.nomos_top.specs.Replaying.{DoesTheSame, KeepsText, KeptReplays, ReplaysText}
use Rattle.nomos_top.specs.Shown.{told_of}
use Rattle.nomos_top.specs.TaskRuns.{IsGivenFor}
use Rattle.nomos_top.specs.Tasks.{KeepsJournal, contract_of, script_of}
use Rattle.nomos_top.proofs.AcceptedLaws.{task-view}
use Rattle.nomos_top.proofs.CauseLemmas.{accepted-one, given-no_cause, given-no_stop}
use Rattle.nomos_top.proofs.EndLaws.{bad-unread, keeps-script, reads-script}
use Rattle.nomos_top.proofs.TaskLaws.{keeps-alone, keeps-begins, keeps-quiet}
use Rattle.nomos_top.proofs.Views.{Carried, Further, DueView, Missed, Whole, EndView, end-view}
use Rattle.nomos_top.proofs.Views as view
use Rattle.nomos_types.specs.Acceptance.{Acceptance, IsAccepted}
use Rattle.nomos_accept.specs.AcceptedText.{IsAcceptedAs}
use Rattle.nomos_words.specs.Words.{Task, check, run, replay, bench, least, pool, talk, save, resume, Asks}

-- ---- what was kept

-- a text behind what was there is not nothing
nothing-kept : (before text : List ℕ) → Some (before ++ text) ≡ Some before → text ≢ [] → ⊥
nothing-kept before text same some =
    let lists : before ++ text ≡ before = cc in
    some (append_cancel_left before text [] (lists ∙ sym (append-nil before)))

-- what the journal's sink has got is what was due
pub kept-due : (c : Call) (text : List ℕ) (kept : Option (List ℕ)) → KeepsText c text
    → c.journal_out.after ≡ with_text c.journal_out.before kept → kept ≡ Some text
kept-due c text None keeps is =
    absurd (nothing-kept keeps.before text (sym keeps.has ∙ is ∙ keeps.had) keeps.some)
kept-due c text (Some due) keeps is =
    let had : with_end c.journal_out.before due ≡ Some (keeps.before ++ due) =
    ap (λ (b : Option (List ℕ)). with_end b due) keeps.had in
    let same : Some (keeps.before ++ due) ≡ Some (keeps.before ++ text) = sym had ∙ sym is ∙ keeps.has in
    let lists : keeps.before ++ due ≡ keeps.before ++ text = cc in
    ap (λ (x : List ℕ). Some x) (append_cancel_left keeps.before due text lists)

-- a run whose journal was kept, and what was carried out
record KeptRun (c : Call) (t : Texts) (text : List ℕ) : Type 0 where
  task : Task
  keeps : KeepsJournal task
  out : List ℕ
  kept : Option (List ℕ)
  wrote : HasWritten c out
  a : Acceptance
  gives : Gives c a
  is : IsAcceptedAs t.contract a
  run : Carried (inputs_of c t) task (outcome_with c c.status out kept) a
  text_is : text ≡ journal_text_of a c.journal.limit run.passages

-- where a journal is kept, the pivot run accepts
keeps-accepted : (task : Task) (text : List ℕ) (a : Acceptance) → KeepsJournal task
    → IsGivenFor task (contract_of task text) a → IsAcceptedAs text a
keeps-accepted (check file) text a keeps is = absurd keeps
keeps-accepted (run file script by steps journal) text a keeps is = is
keeps-accepted (replay file script journal) text a keeps is = absurd keeps
keeps-accepted (bench seed bidders) text a keeps is = absurd keeps
keeps-accepted (pool file script threads) text a keeps is = absurd keeps
keeps-accepted (talk file script name proc words) text a keeps is = absurd keeps
keeps-accepted (save file script snapshot) text a keeps is = absurd keeps
keeps-accepted (resume file snapshot script) text a keeps is = absurd keeps
keeps-accepted (least file) text a keeps is = absurd keeps

kept-carried : (c : Call) (t : Texts) (text : List ℕ) (w : Whole c t) (task : Task) (a : Acceptance) → Gives c a
    → IsGivenFor task (contract_of task t.contract) a → w.kept ≡ Some text
    → (r : Carried (inputs_of c t) task (outcome_with c c.status w.out w.kept) a)
    → KeepsJournal task → KeptRun c t text
kept-carried c t text w task a gives is kept r keeps =
    let same : Some text ≡ Some (journal_text_of a c.journal.limit r.passages) = sym kept ∙ r.keeps keeps in
    record {
      task = task;
      keeps = keeps;
      out = w.out;
      kept = w.kept;
      wrote = w.wrote;
      a = a;
      gives = gives;
      is = keeps-accepted task t.contract a keeps is;
      run = r;
      text_is = cc;
    }

none-kept : {A : Type 0} (kept : Option (List ℕ)) (text : List ℕ) → kept ≡ None → kept ≡ Some text → A
none-kept kept text none is = absurd (let both : None ≡ Some text = sym none ∙ is in cc)

task-kept : (c : Call) (t : Texts) (text : List ℕ) (w : Whole c t) (task : Task) → KeepsJournal task
    → w.kept ≡ Some text → DueView (inputs_of c t) task (outcome_with c c.status w.out w.kept) → KeptRun c t text
task-kept c t text w task keeps kept (view.against why idle none) = none-kept w.kept text idle.kept kept
task-kept c t text w task keeps kept (view.alone a what alone gives is idle n) = none-kept w.kept text idle.kept kept
task-kept c t text w task keeps kept (view.behind a (view.missed status line is idle same out) further gives h) =
    none-kept w.kept text idle.kept kept
task-kept c t text w task keeps kept (view.behind a (view.carried r) further gives h) =
    kept-carried c t text w task a gives h kept r keeps

end-kept : (c : Call) (t : Texts) (text : List ℕ) (task : Task) → Asks c.words task → KeepsJournal task
    → KeepsText c text → EndView c t → KeptRun c t text
end-kept c t text task asks keeps got (view.all w) =
    task-kept c t text w task keeps (kept-due c text w.kept got w.keeps) (task-view w.view task asks)
end-kept c t text task asks keeps got (view.failed f) = absurd (got.whole f.is)
end-kept c t text task asks keeps got (view.wanting m) =
    absurd (nothing-kept got.before text (sym got.has ∙ m.journal_out ∙ got.had) got.some)

-- what a run tells, where its journal is kept
keeps-told : (task : Task) → KeepsJournal task → (a : Acceptance) (journal : Journal) (ps : List Passage)
    (last : LedgerState) → told_of task a journal ps last ≡ report_of a ps
keeps-told (check file) keeps a journal ps last = refl
keeps-told (run file script by steps kept) keeps a journal ps last = refl
keeps-told (replay file script kept) keeps a journal ps last = refl
keeps-told (bench seed bidders) keeps a journal ps last = absurd keeps
keeps-told (pool file script threads) keeps a journal ps last = absurd keeps
keeps-told (talk file script name proc words) keeps a journal ps last = absurd keeps
keeps-told (save file script snapshot) keeps a journal ps last = absurd keeps
keeps-told (resume file snapshot script) keeps a journal ps last = absurd keeps
keeps-told (least file) keeps a journal ps last = refl

-- ---- the replay

module _ (c : Call) (t : Texts) (e : EndsOn c t) (text : List ℕ) (k : KeptRun c t text) (d : Call) (u : Texts)
    (r : ReplaysText t text d u) where
  -- its script
  own-reads : ReadsAs t.script k.run.items
  own-reads =
      subst (λ (x : List ℕ). ReadsAs x k.run.items)
      (reads-script k.task t.script (keeps-script k.task k.keeps))
      (subst (λ (n : Option ℕ). CarriesBy n c.taken (script_of k.task t.script) k.run.items)
      (keeps-alone k.task k.keeps) k.run.script)

  reads : ReadsAs u.script k.run.items
  reads = subst (λ (x : List ℕ). ReadsAs x k.run.items) (sym r.same_script) own-reads

  -- it begins with nothing
  own-tells : Tells k.a k.run.items c.journal k.run.passages k.run.last
  own-tells =
      subst (λ (l : LedgerState). TellsFrom k.a l k.run.items c.journal k.run.passages k.run.last)
      (keeps-begins k.task k.keeps k.a t.third k.run.first k.run.begins) k.run.tells

  -- the text is that of the journal
  own-text : IsTextOf version.Two k.a k.run.items c.journal u.third
  own-text = record {
    passages = k.run.passages;
    last = k.run.last;
    tells = own-tells;
    lines = r.its_text ∙ k.text_is;
  }

  accepted : IsAccepted k.a
  accepted = e.fits k.a k.gives

  -- the contract is accepted
  is : IsAcceptedAs u.contract k.a
  is = subst (λ (x : List ℕ). IsAcceptedAs x k.a) (sym r.same_contract) k.is

  -- what it carries out is the same
  same-done : (w : Whole d u) (b : Acceptance) → Gives d b → b ≡ k.a
      → Carried (inputs_of d u) (replay r.file r.script r.journal) (outcome_with d d.status w.out w.kept) b
      → DoesTheSame c d
  same-done w b gives one told_run =
      let items : told_run.items ≡ k.run.items = reads_once u.script told_run.items k.run.items told_run.script reads in
      let theirs : IsTextOf told_run.own.0 k.a k.run.items d.journal u.third =
      subst (λ (xs : List ScriptItem). IsTextOf told_run.own.0 k.a xs d.journal u.third) items
      (subst (λ (x : Acceptance). IsTextOf told_run.own.0 x told_run.items d.journal u.third) one told_run.own.1) in
      let mine : IsTextOf version.Two k.a k.run.items c.journal u.third = own-text in
      let journals : d.journal ≡ c.journal = (legal-one accepted u.script reads theirs mine).0 in
      let from_none = subst
      (λ (l : LedgerState). TellsFrom b l told_run.items d.journal told_run.passages told_run.last) told_run.begins
      told_run.tells in
      let tells = subst (λ (x : Acceptance). Tells x told_run.items d.journal told_run.passages told_run.last) one
      from_none in
      let told = subst (λ (xs : List ScriptItem). Tells k.a xs d.journal told_run.passages told_run.last) items tells in
      let moved = subst (λ (j : Journal). Tells k.a k.run.items j told_run.passages told_run.last) journals told in
      let passages : told_run.passages ≡ k.run.passages = (tells-one moved own-tells).0 in
      let report : w.out ≡ report_of k.a k.run.passages =
      told_run.out (λ no. no)
      ∙ ap (λ (x : Acceptance). report_of x told_run.passages) one
      ∙ ap (λ (ps : List Passage). report_of k.a ps) passages in
      let own_report : k.out ≡ report_of k.a k.run.passages =
      k.run.out (keeps-quiet k.task k.keeps) ∙ keeps-told k.task k.keeps k.a c.journal k.run.passages k.run.last in
      record {
        accepted = gives ∙ ap (λ (x : Acceptance). Some x) one ∙ sym k.gives;
        journal = journals;
        status =
            told_run.status (λ no. no)
            ∙ ap (λ (j : Journal). run_status j.entries) journals
            ∙ sym (k.run.status (keeps-quiet k.task k.keeps));
        report = report_of k.a k.run.passages;
        wrote = subst (HasWritten c) own_report k.wrote;
        writes = subst (HasWritten d) report w.wrote;
      }

  missed-same : (b : Acceptance) → b ≡ k.a → (status : ℕ) (line : List ℕ)
      → Missed (inputs_of d u) (replay r.file r.script r.journal) b status line → status ≡ 5
  missed-same b one status line (view.script_fault reads2 rose) = refl
  missed-same b one status line (view.third_fault reads2 rose) = refl
  missed-same b one status line (view.bad_script first l reads2 begins bad) =
      absurd (bad-unread (inputs_of d u).script k.run.items l bad reads)
  missed-same b one status line (view.no_pool threads items n reads2 has begins h bad) =
      absurd (let both : None ≡ Some threads = has in cc)
  missed-same b one status line (view.bad_journal items why reads2 h answers) =
      let same : items ≡ k.run.items = reads_once u.script items k.run.items h reads in
      absurd
      (legal-not_refused accepted u.script reads own-text
      (subst (λ (xs : List ScriptItem). Answers k.a xs u.third (Err why)) same
      (subst (λ (x : Acceptance). Answers x items u.third (Err why)) one answers)))
  missed-same b one status line (view.bad_talk items l reads2 h bad) = absurd reads2
  missed-same b one status line (view.unloaded why reads2 loads) = absurd reads2
  missed-same b one status line (view.unsaved items journal ps last why keeps h ran bad) = absurd keeps

  further-same : (w : Whole d u) (b : Acceptance) → Gives d b → b ≡ k.a
      → Further (inputs_of d u) (replay r.file r.script r.journal) (outcome_with d d.status w.out w.kept) b
      → DoesTheSame c d ⊎ Fails d
  further-same w b gives one (view.missed status line is2 idle same out) =
      inr (inl (same ∙ missed-same b one status line is2))
  further-same w b gives one (view.carried told_run) = inl (same-done w b gives one told_run)

  due-same : (w : Whole d u)
      → DueView (inputs_of d u) (replay r.file r.script r.journal) (outcome_with d d.status w.out w.kept)
      → DoesTheSame c d ⊎ Fails d
  due-same w (view.against (view.fault reads2 rose n is2) idle none) = inr (inl n)
  due-same w (view.against (view.refused why h n is2) idle none) =
      absurd (given-no_cause (replay r.file r.script r.journal) u.contract k.a why is h.cause)
  due-same w (view.against (view.unsolved stop h n is2) idle none) =
      absurd (given-no_stop (replay r.file r.script r.journal) u.contract k.a stop is h)
  due-same w (view.alone a what alone gives is2 idle n) = absurd alone
  due-same w (view.behind b what further gives is2) =
      further-same w b gives (accepted-one u.contract b k.a is2 is) what

  end-same : EndView d u → DoesTheSame c d ⊎ Fails d
  end-same (view.all w) = due-same w (task-view w.view (replay r.file r.script r.journal) r.asks)
  end-same (view.failed f) = inr (inr (inl f.is))
  end-same (view.wanting m) = inr (inr (inr m.is))

pub kept-replays : (c : Call) (t : Texts) → EndsOn c t → KeptReplays c t
kept-replays c t e = record {
  replays = λ task text d u asks keeps got r.
      end-same c t e text (end-kept c t text task asks keeps got (end-view c t e)) d u r (end-view d u r.ends);
}
