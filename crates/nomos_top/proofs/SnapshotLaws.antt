-- What is saved is loaded, and a script that begins there goes on.
use Rattle.std.proofs.Common.{◌≡◌, ◌≢◌, ◌∙◌, ◌⊎◌, inl, inr, ℕ, List, Option, Some, Result, Ok, Err, refl, sym, ap, subst, arith}
use Rattle.nomos_legal.specs.Ledger.{LedgerState}
use Rattle.nomos_snapshot.proofs.LoadingLaws.{loads-one}
use Rattle.nomos_snapshot.specs.Loading.{Loads}
use Rattle.nomos_snapshot.specs.Saving as saving
use Rattle.nomos_snapshot.specs.Saving.{Saves}
use Rattle.nomos_snapshot.specs.Text.{snapshot_text}
use Rattle.nomos_snapshot.specs.declared.error.SaveError.{SaveError}
use Rattle.nomos_top.proofs.AcceptedLaws.{end-sound, task-view}
use Rattle.nomos_top.proofs.CauseLemmas.{accepted-one}
use Rattle.nomos_top.proofs.EndLaws.{whole-at, whole-done}
use Rattle.nomos_top.proofs.KeptLaws.{done-carried, seen-as}
use Rattle.nomos_top.proofs.ReplayingLaws.{kept-due}
use Rattle.nomos_top.proofs.ShownLaws.{kept-text}
use Rattle.nomos_top.proofs.StatusLaws.{done-not}
use Rattle.nomos_top.proofs.TaskLaws.{saved-accepted}
use Rattle.nomos_top.proofs.Views as view
use Rattle.nomos_top.proofs.Views.{Carried, DueView, EndView, Missed, SavedAs, Whole, end-view}
use Rattle.nomos_top.specs.Call.{EndsOn, inputs_of, outcome_with}
use Rattle.nomos_top.specs.Headline.{BeginsAt}
use Rattle.nomos_top.specs.Kept.{CarriesOut}
use Rattle.nomos_top.specs.Replaying.{KeepsText}
use Rattle.nomos_top.specs.Seen.{Call, Texts, Gives, HasKept, IsDone}
use Rattle.nomos_top.specs.Snapshots.{GoesOn, ResumesText, SavesAndLoads}
use Rattle.nomos_top.specs.TaskRuns.{IsGivenFor}
use Rattle.nomos_top.specs.Tasks.{IsAlone, KeepsSnapshot, contract_of}
use Rattle.nomos_accept.specs.AcceptedText.{IsAcceptedAs}
use Rattle.nomos_types.specs.Acceptance.{Acceptance, IsAccepted}
use Rattle.nomos_words.proofs.WordLaws.{one_task}
use Rattle.nomos_words.specs.Words.{Task, resume, Asks}

-- ---- what is saved

-- a text that is saved is the snapshot
saves-text : {a : Acceptance} {l : LedgerState} {text : List ℕ} {answer : Result (List ℕ) SaveError} → Saves a l answer
    → answer ≡ Ok text → text ≡ snapshot_text a l
saves-text (saving.numbers high) is = cc
saves-text (saving.too_long low long) is = cc
saves-text (saving.saved low short) is = cc

-- the run that is seen, and what was kept of it
record KeptLedger (c : Call) (t : Texts) (kept : Option (List ℕ)) (r : CarriesOut c t) : Type 0 where
  kept_is : kept ≡ Some (snapshot_text r.a r.last)
  loads : Loads r.a (snapshot_text r.a r.last) (Ok r.last)

seen-ledger : (c : Call) (t : Texts) (kept : Option (List ℕ)) (r : CarriesOut c t) (a : Acceptance) (last : LedgerState)
    → a ≡ r.a → last ≡ r.last → (text : List ℕ) → kept ≡ Some text → Saves a last (Ok text) → Loads a text (Ok last)
    → KeptLedger c t kept r
seen-ledger c t kept r a last programs lasts text is saves loads =
    let same : text ≡ snapshot_text r.a r.last =
    saves-text saves refl
    ∙ ap (λ (x : Acceptance). snapshot_text x last) programs
    ∙ ap (λ (l : LedgerState). snapshot_text r.a l) lasts in
    record {
      kept_is = is ∙ ap (λ (x : List ℕ). Some x) same;
      loads =
          subst (λ (x : List ℕ). Loads r.a x (Ok r.last)) same
          (subst (λ (l : LedgerState). Loads r.a text (Ok l)) lasts
          (subst (λ (x : Acceptance). Loads x text (Ok last)) programs loads));
    }

whole-ledger : (c : Call) (t : Texts) → EndsOn c t → (w : Whole c t) → IsDone c.status → (r : CarriesOut c t)
    → KeepsSnapshot r.task → KeptLedger c t w.kept r
whole-ledger c t e w done r keeps =
    either (done-carried c t w.out w.kept r.task done (task-view w.view r.task r.asks))
  where
    either : IsAlone r.task
        ⊎ ((a : Acceptance) × Gives c a × Carried (inputs_of c t) r.task (outcome_with c c.status w.out w.kept) a)
        → KeptLedger c t w.kept r
    either (inl alone) = absurd (r.scripted alone)
    either (inr (a, gives, run)) =
        let seen = seen-as c t r.task c.status w.out w.kept a (e.fits a gives) gives r.asks run r in
        let saved = run.saves keeps in
        seen-ledger c t w.kept r a run.last seen.programs seen.last saved.text saved.kept saved.saves saved.loads

call-saved : (c : Call) (t : Texts) → EndsOn c t → (r : CarriesOut c t) → IsDone c.status → KeepsSnapshot r.task
    → HasKept c (snapshot_text r.a r.last) × Loads r.a (snapshot_text r.a r.last) (Ok r.last)
call-saved c t e r done keeps =
    let w = whole-done c t (end-view c t e) done in
    let k = whole-ledger c t e w done r keeps in
    (kept-text c w.kept (snapshot_text r.a r.last) w.keeps k.kept_is, k.loads)

-- ---- what is loaded

-- the text that was kept is loaded as the last ledger
text-loads : (c : Call) (t : Texts) → EndsOn c t → (r : CarriesOut c t) (text : List ℕ) → IsDone c.status
    → KeepsSnapshot r.task → KeepsText c text → Loads r.a text (Ok r.last)
text-loads c t e r text done keeps got =
    let w = whole-done c t (end-view c t e) done in
    let k = whole-ledger c t e w done r keeps in
    let both : Some (snapshot_text r.a r.last) ≡ Some text = sym k.kept_is ∙ kept-due c text w.kept got w.keeps in
    let same : snapshot_text r.a r.last ≡ text = cc in
    subst (λ (x : List ℕ). Loads r.a x (Ok r.last)) same k.loads

-- the program of a run that is seen is accepted for its task
course-accepted : (c : Call) (t : Texts) → EndsOn c t → (task : Task) (a : Acceptance) → Asks c.words task → Gives c a
    → IsGivenFor task (contract_of task t.contract) a
course-accepted c t e task a asks gives =
    let (own, owns, is) = end-sound c t (end-view c t e) a gives in
    subst (λ (x : Task). IsGivenFor x (contract_of x t.contract) a) (one_task c.words own task owns asks) is

module _ (c : Call) (t : Texts) (e : EndsOn c t) (r : CarriesOut c t) (text : List ℕ) (done : IsDone c.status)
    (keeps : KeepsSnapshot r.task) (got : KeepsText c text) (d : Call) (u : Texts) (s : ResumesText t text d u) where
  -- the other call's task
  abbrev other : Task
  other = resume s.file s.snapshot s.script

  mine : IsAcceptedAs t.contract r.a
  mine = saved-accepted r.task keeps t.contract r.a (course-accepted c t e r.task r.a r.asks r.gives)

  -- its program is the same one
  same-program : (a : Acceptance) → IsGivenFor other (contract_of other u.contract) a → a ≡ r.a
  same-program a is = accepted-one t.contract a r.a (subst (λ (x : List ℕ). IsAcceptedAs x a) s.same_contract is) mine

  -- so its snapshot is the last ledger
  loads : (a : Acceptance) → IsGivenFor other (contract_of other u.contract) a → Loads a u.third (Ok r.last)
  loads a is =
      subst (λ (x : List ℕ). Loads a x (Ok r.last)) (sym s.its_text)
      (subst (λ (x : Acceptance). Loads x text (Ok r.last)) (sym (same-program a is))
      (text-loads c t e r text done keeps got))

  missed-loaded : (a : Acceptance) → IsAccepted a → IsGivenFor other (contract_of other u.contract) a → (n : ℕ)
      (line : List ℕ) → Missed (inputs_of d u) other a n line → n ≡ 11 → ⊥
  missed-loaded a accepted is n line (view.script_fault reads rose) eleven = omega (arith, eleven)
  missed-loaded a accepted is n line (view.third_fault reads rose) eleven = omega (arith, eleven)
  missed-loaded a accepted is n line (view.bad_script first l reads begins bad) eleven = omega (arith, eleven)
  missed-loaded a accepted is n line (view.no_pool threads items k reads has begins h bad) eleven =
      omega (arith, eleven)
  missed-loaded a accepted is n line (view.bad_journal items why reads h answers) eleven = omega (arith, eleven)
  missed-loaded a accepted is n line (view.bad_talk items l reads h bad) eleven = omega (arith, eleven)
  missed-loaded a accepted is n line (view.unloaded why reads bad) eleven =
      let both : Ok r.last ≡ Err why = loads-one accepted (loads a is) bad in cc both
  missed-loaded a accepted is n line (view.unsaved items journal ps last why keeps2 h run bad) eleven = keeps2

  due-loaded : (out : List ℕ) (kept : Option (List ℕ))
      → DueView (inputs_of d u) other (outcome_with d d.status out kept)
      → d.status ≢ 11
  due-loaded out kept (view.against (view.fault reads rose n is) idle none) eleven = omega (arith, n, eleven)
  due-loaded out kept (view.against (view.refused why h n is) idle none) eleven = omega (arith, n, eleven)
  due-loaded out kept (view.against (view.unsolved stop h n is) idle none) eleven = omega (arith, n, eleven)
  due-loaded out kept (view.alone a what alone gives is idle n) eleven = omega (arith, n, eleven)
  due-loaded out kept (view.behind a (view.missed n line missed idle same o) further gives is) eleven =
      missed-loaded a (s.ends.fits a gives) is n line missed (sym same ∙ eleven)
  due-loaded out kept (view.behind a (view.carried run) further gives is) eleven =
      done-not d.status 11 run.done (λ z. omega (arith, z)) (λ z. omega (arith, z)) eleven

  goes-on : GoesOn c t r d u
  goes-on = record {
    not_refused = λ eleven.
        let w = whole-at d u 11 (end-view d u s.ends) eleven (λ z. omega (arith, z)) (λ z. omega (arith, z)) in
        due-loaded w.out w.kept (task-view w.view other s.asks) eleven;
    same_program = λ k. same-program k.a (course-accepted d u s.ends other k.a s.asks k.gives);
    begins = λ k.
        let is = course-accepted d u s.ends other k.a s.asks k.gives in
        let task : k.task ≡ other = one_task d.words k.task other k.asks s.asks in
        let begins : BeginsAt other k.a u k.first =
        subst (λ (x : Task). BeginsAt x k.a u k.first) task k.begins in
        let both : Ok k.first ≡ Ok r.last = loads-one (s.ends.fits k.a k.gives) begins (loads k.a is) in
        cc;
  }

pub saves-and_loads : (c : Call) (t : Texts) → EndsOn c t → SavesAndLoads c t
saves-and_loads c t e = record {
  saved = λ r done keeps. call-saved c t e r done keeps;
  goes_on = λ r text d u done keeps got s. goes-on c t e r text done keeps got d u s;
}
